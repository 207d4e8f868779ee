-- How what watchers have been told adds up.
use Rattle.std.proofs.Common.{◌≡◌, ◌∙◌, ℕ, List, [], ◌∷◌, ◌++◌, take, drop, refl, sym, ap, ap₂, arith, append_assoc}
use Rattle.std.proofs.lemmas.List.{take-map, drop-map}
use Rattle.vr_model.specs.declared.search.Event.{Event}
use Rattle.vr_watch.specs.Told.{reports, Reported, ReportedToSome, ReportedInPart}

module _ {W : Type 0} (after : W → List Event → List ℕ) where
  -- nothing was told
  pub told_nothing : (ws : List W) → Reported after ws ws []
  told_nothing ws = record { heard = λ later. refl }

  -- first these events, then those
  pub told_both : (a b c : List W) (first then : List Event) → Reported after a b first → Reported after b c then → Reported after a c (first ++ then)
  told_both a b c first then f t =
      record { heard = λ later. t.heard later ∙ (f.heard (then ++ later) ∙ ap (reports after a) (sym (append_assoc first then later))) }

  -- what was told before of those in front and behind
  split : (a b : List W) (n : ℕ) (told later : List Event) → Reported after a b told → reports after (take n b) later ≡ reports after (take n a) (told ++ later)
  split a b n told later t = sym (take-map (λ w. after w later) n b) ∙ (ap (take n) (t.heard later) ∙ take-map (λ w. after w (told ++ later)) n a)

  split_rest : (a b : List W) (n : ℕ) (told later : List Event) → Reported after a b told
      → reports after (drop n b) later ≡ reports after (drop n a) (told ++ later)
  split_rest a b n told later t = sym (drop-map (λ w. after w later) n b) ∙ (ap (drop n) (t.heard later) ∙ drop-map (λ w. after w (told ++ later)) n a)

  -- first these events were told to all, then one to some
  pub some_behind : (a b c : List W) (told left : List Event) (event : Event) → Reported after a b told
      → ReportedToSome after b c event → ReportedInPart after a c (told ++ (event ∷ left))
  some_behind a b c told left event t s = record {
    told = told;
    hand = event ∷ [];
    left = left;
    whole = refl;
    one = omega arith;
    front = s.front;
    heard = λ later. s.heard later ∙ ap₂ (λ x y. x ++ y) (split a b s.front told (event ∷ later) t) (split_rest a b s.front told later t);
  }

  -- these events were told to all, and no other
  pub none_behind : (a b : List W) (told left : List Event) → Reported after a b told → ReportedInPart after a b (told ++ left)
  none_behind a b told left t = record {
    told = told;
    hand = [];
    left = left;
    whole = refl;
    one = omega arith;
    front = 0;
    heard = t.heard;
  }

  -- one event was told to some
  pub in_part : (a b : List W) (event : Event) → ReportedToSome after a b event → ReportedInPart after a b (event ∷ [])
  in_part a b event s = some_behind a a b [] [] event (told_nothing a) s

  -- first these events were told to all, then others in part
  pub in_part_behind : (a b c : List W) (first events left : List Event) → Reported after a b first
      → ReportedInPart after b c events → ReportedInPart after a c (first ++ (events ++ left))
  in_part_behind a b c first events left f p = record {
    told = first ++ p.told;
    hand = p.hand;
    left = p.left ++ left;
    whole = ap (λ es. first ++ (es ++ left)) p.whole
        ∙ (ap (λ es. first ++ es) (append_assoc p.told (p.hand ++ p.left) left ∙ ap (λ es. p.told ++ es) (append_assoc p.hand p.left left))
        ∙ sym (append_assoc first p.told (p.hand ++ (p.left ++ left))));
    one = p.one;
    front = p.front;
    heard = λ later. p.heard later ∙ ap₂ (λ x y. x ++ y)
        (split a b p.front first (p.told ++ (p.hand ++ later)) f ∙ ap (reports after (take p.front a)) (sym (append_assoc first p.told (p.hand ++ later))))
        (split_rest a b p.front first (p.told ++ later) f ∙ ap (reports after (drop p.front a)) (sym (append_assoc first p.told later)));
  }

  -- the same of the same watchers
  pub told_at : (a x b y : List W) (events : List Event) → x ≡ a → y ≡ b → Reported after a b events → Reported after x y events
  told_at a x b y events p q t =
      record { heard = λ later. ap (λ ws. reports after ws later) q ∙ (t.heard later ∙ ap (λ ws. reports after ws (events ++ later)) (sym p)) }

  pub some_told_at : (a x b y : List W) (event : Event) → x ≡ a → y ≡ b → ReportedToSome after a b event → ReportedToSome after x y event
  some_told_at a x b y event p q t = record {
    front = t.front;
    heard = λ later. ap (λ ws. reports after ws later) q
        ∙ (t.heard later ∙ ap (λ ws. reports after (take t.front ws) (event ∷ later) ++ reports after (drop t.front ws) later) (sym p));
  }
