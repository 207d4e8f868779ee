-- The line in code whose stop allows one cumul alone.
use Rattle.std.proofs.Common.{◌∙◌, ℕ, zero, suc, ◌<◌, Bool, false, ◌&&◌, List, [], ◌∷◌, length, get_or, set, ℤ, ap, arith}
use Rattle.std.specs.List.{AllZip}
use Rattle.std.proofs.lemmas.List.{length-set}
use Rattle.std.proofs.lemmas.List.Elements.{All-set}
use Rattle.vr_spans.specs.declared.runs.Run.{Run}
use Rattle.vr_model.specs.tables.Numbers.{is_same_number}
use Rattle.vr_steps.specs.declared.lines.Line.{Line}
use Rattle.vr_steps.specs.Levels.{HasNumbers, IsCumuls}
use Rattle.vr_steps.specs.Lines.{IsSoundLine}
use Rattle.vr_plan.specs.Ends.{IsPinnedOf}
use Rattle.vr_plan.specs.Settled.{IsOnly}

zip_set : (tests : List (ℤ → Bool)) (sets : List (List Run)) (k : ℕ) (test : ℤ → Bool) (only : List Run)
    → AllZip HasNumbers tests sets → HasNumbers test only → AllZip HasNumbers (set tests k test) (set sets k only)
zip_set [] [] k test only zip h = tt
zip_set [] (s ∷ ss) k test only zip h = absurd zip
zip_set (t ∷ ts) [] k test only zip h = absurd zip
zip_set (t ∷ ts) (s ∷ ss) zero test only zip h = (h, zip.1)
zip_set (t ∷ ts) (s ∷ ss) (suc k) test only zip h = (zip.0, zip_set ts ss k test only zip.1 h)

zip_at : (tests : List (ℤ → Bool)) (sets : List (List Run)) (k : ℕ) → AllZip HasNumbers tests sets
    → k < length sets → HasNumbers (get_or tests k (λ _. false)) (get_or sets k [])
zip_at [] [] k zip low = absurd (omega (arith, low))
zip_at [] (s ∷ ss) k zip low = absurd zip
zip_at (t ∷ ts) [] k zip low = absurd zip
zip_at (t ∷ ts) (s ∷ ss) zero zip low = zip.0
zip_at (t ∷ ts) (s ∷ ss) (suc k) zip low = zip_at ts ss k zip.1 (omega (arith, low))

-- the line with other sets
abbrev pub with_sets : Line → List (List Run) → Line
with_sets line sets = record { allowed = sets; hops = line.hops; breaks = line.breaks }

module _ (made : Line) (k : ℕ) (only : List Run) where
  pub pinned_line : (x : ℤ) → k < length made.allowed → IsOnly (get_or made.allowed k []) x only
      → IsPinnedOf made k x (with_sets made (set made.allowed k only))
  pinned_line x low is defined of =
      let at = zip_at defined.allowed made.allowed k of.allowed low in
      record {
        allowed = zip_set defined.allowed made.allowed k (λ y. get_or defined.allowed k (λ _. false) y && is_same_number x y)
            only of.allowed (λ y. is y ∙ ap (λ b. b && is_same_number x y) (at y));
        hops = of.hops;
        breaks = of.breaks;
      }

  pub pinned_sound : IsSoundLine made → IsCumuls only → IsSoundLine (with_sets made (set made.allowed k only))
  pinned_sound sound cumuls = record {
    stops = length-set made.allowed k only ∙ sound.stops;
    arcs = sound.arcs;
    cumuls = All-set IsCumuls made.allowed k only cumuls sound.cumuls;
    each_hop = sound.each_hop;
    one_slack = sound.one_slack;
    few_breaks = sound.few_breaks;
    each_break = sound.each_break;
    forward = sound.forward;
  }
