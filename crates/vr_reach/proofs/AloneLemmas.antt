-- Where walks without a break lead.
use Rattle.std.proofs.Common.{◌≡◌, ◌∙◌, ℕ, zero, suc, ◌+◌, ◌-◌, ◌≤◌, Bool, false, List, [], ◌∷◌, ℤ, pos, ◌+ℤ◌, ◌≤ℤ◌, sym, subst, arith}
use Rattle.std.specs.Prelude.{IsTrue, ◌↔◌, slice_index_or}
use Rattle.std.specs.Int.{int_max, int_min}
use Rattle.std.proofs.lemmas.Bool.{and_parts, and_from}
use Rattle.std.proofs.lemmas.Int.{ints}
use Rattle.vr_spans.specs.declared.runs.Run.{Run}
use Rattle.vr_spans.specs.Runs.{has, in_run, ShareANumber}
use Rattle.vr_model.specs.tables.Numbers.{horizon, within}
use Rattle.vr_model.specs.schedules.Lines.{Line}
use Rattle.vr_model.specs.schedules.Schedules.{arc_at}
use Rattle.vr_steps.specs.Levels.{level_at}
use Rattle.vr_reach.specs.Alone.{Follows, GoesAlone, IsLedToWithoutBreaks}
use Rattle.vr_reach.specs.Singles.{is_run, IsOnlyRun}
use Rattle.vr_reach.specs.VisitRuns.{IsAllowedRun}
use Rattle.vr_reach.proofs.SingleLemmas.{alone_in, came, goes, in_alone, within_ends}

-- behind one arc
pub crossed : (L : Line) (k : ℕ) (run allowed new : Run) (t s : ℤ) → run.lo ≤ℤ run.hi → pos 0 ≤ℤ s → new.lo ≡ int_max (run.lo +ℤ t) allowed.lo
    → new.hi ≡ int_min (run.hi +ℤ (t +ℤ s)) allowed.hi → IsAllowedRun L (suc k) allowed → t ≡ (arc_at L k).transit → s ≡ L.slack_max
    → (y : ℤ) → IsTrue (in_run new y) ↔ ((x : ℤ) × IsTrue (in_run run x) × Follows L k x y)
crossed L k run allowed new t s order rises lo_is hi_is is t_is s_is y = (ahead, back)
  where
    ahead : IsTrue (in_run new y) → (x : ℤ) × IsTrue (in_run run x) × Follows L k x y
    ahead there =
        let way = came run allowed new t s order rises lo_is hi_is y there in
        let x = way.1.0 in
        let least = way.1.2 in
        let most = way.1.3 in (
          x,
          way.1.1,
          record {
            allowed = and_from (within (pos 0) horizon y) (slice_index_or L.allowed (suc k) (λ _. false) y)
                (within_ends allowed y is.ends way.0) (sym (is.exact y) ∙ way.0);
            slack = record { at_least = omega (arith, ints, least, t_is); at_most = omega (arith, ints, most, t_is, s_is) };
          },
        )

    back : (x : ℤ) × IsTrue (in_run run x) × Follows L k x y → IsTrue (in_run new y)
    back (x, from, follows) =
        let here = (and_parts (within (pos 0) horizon y) (slice_index_or L.allowed (suc k) (λ _. false) y) follows.allowed).1 in
        let least = follows.slack.at_least in
        let most = follows.slack.at_most in
        goes run allowed new t s order rises lo_is hi_is y x (is.exact y ∙ here) from (omega (arith, ints, least, t_is)) (omega (arith, ints, most, t_is, s_is))

module _ (L : Line) (set : ℤ → Bool) (a : ℕ) where
  -- at the first stop
  pub led_begun : (y : ℤ) → IsTrue (set y) ↔ IsLedToWithoutBreaks L set a (a - a) y
  led_begun y =
      let e : a - a ≡ 0 = omega arith in
      (λ t. subst (λ n. IsLedToWithoutBreaks L set a n y) (sym e) t, λ led. subst (λ n. IsLedToWithoutBreaks L set a n y) e led)

  -- one arc more
  pub led_more : (k : ℕ) → a ≤ k → (run new : Run) → ((x : ℤ) → IsTrue (in_run run x) ↔ IsLedToWithoutBreaks L set a (k - a) x)
      → ((y : ℤ) → IsTrue (in_run new y) ↔ ((x : ℤ) × IsTrue (in_run run x) × Follows L k x y))
      → (y : ℤ) → IsTrue (in_run new y) ↔ IsLedToWithoutBreaks L set a (k + 1 - a) y
  led_more k le run new before cross y = (ahead, back)
    where
      at : a + (k - a) ≡ k
      at = omega (arith, le)

      next : suc (k - a) ≡ k + 1 - a
      next = omega (arith, le)

      ahead : IsTrue (in_run new y) → IsLedToWithoutBreaks L set a (k + 1 - a) y
      ahead there =
          let m = (cross y).0 there in
          let led : IsLedToWithoutBreaks L set a (suc (k - a)) y = (m.0, (before m.0).0 m.1, subst (λ i. Follows L i m.0 y) (sym at) m.2) in
          subst (λ n. IsLedToWithoutBreaks L set a n y) next led

      back : IsLedToWithoutBreaks L set a (k + 1 - a) y → IsTrue (in_run new y)
      back led =
          let m : IsLedToWithoutBreaks L set a (suc (k - a)) y = subst (λ n. IsLedToWithoutBreaks L set a n y) (sym next) led in
          (cross y).1 (m.0, (before m.0).1 m.1, subst (λ i. Follows L i m.0 y) at m.2)

  -- where nothing is led to, nothing is further on
  none_on : (m : ℕ) → ((x : ℤ) → IsLedToWithoutBreaks L set a m x → ⊥) → (n : ℕ) (y : ℤ) → IsLedToWithoutBreaks L set a (m + n) y → ⊥
  none_on m none zero y led = let e : m + 0 ≡ m = omega arith in none y (subst (λ i. IsLedToWithoutBreaks L set a i y) e led)
  none_on m none (suc n) y led =
      let e : m + suc n ≡ suc (m + n) = omega arith in
      let there : IsLedToWithoutBreaks L set a (suc (m + n)) y = subst (λ i. IsLedToWithoutBreaks L set a i y) e led in
      none_on m none n there.0 there.1

  pub none_led : (k last : ℕ) → a ≤ k → k ≤ last → (run : Run) → (run.lo ≤ℤ run.hi → ⊥)
      → ((x : ℤ) → IsTrue (in_run run x) ↔ IsLedToWithoutBreaks L set a (k - a) x) → (y : ℤ) → IsTrue (in_run run y) ↔ IsLedToWithoutBreaks L set a (last - a) y
  none_led k last le order run empty is y =
      let nothing : (x : ℤ) → IsTrue (in_run run x) → ⊥ = λ x there. empty (grind (arith, ints, there)) in
      let e : last - a ≡ (k - a) + (last - k) = omega (arith, le, order) in (
        λ there. absurd (nothing y there),
        λ led. absurd (none_on (k - a) (λ x before. nothing x ((is x).1 before)) (last - k) y (subst (λ i. IsLedToWithoutBreaks L set a i y) e led)),
      )

-- a walk goes all the way exactly where its run shares a number with the set behind
pub alone_where : (L : Line) (from to : List (List Run)) (a e b : ℕ) (begun run : Run) → IsTrue (is_run (level_at from b))
    → IsOnlyRun (level_at from b) begun → ((y : ℤ) → IsTrue (in_run run y) ↔ IsLedToWithoutBreaks L (in_run begun) a (e - a) y)
    → ShareANumber (run ∷ []) (level_at to b) ↔ GoesAlone L from to a e b
alone_where L from to a e b begun run one only is = (ahead, back)
  where
    same : has (level_at from b) ≡ in_run begun
    same = λ i x. only.exact x i

    ahead : ShareANumber (run ∷ []) (level_at to b) → GoesAlone L from to a e b
    ahead (x, first, second) = record {
      one = one;
      cumul = x;
      led = subst (λ set. IsLedToWithoutBreaks L set a (e - a) x) (sym same) ((is x).0 (alone_in run x first));
      reaches = second;
    }

    back : GoesAlone L from to a e b → ShareANumber (run ∷ []) (level_at to b)
    back goes =
        (goes.cumul, in_alone run goes.cumul ((is goes.cumul).1 (subst (λ set. IsLedToWithoutBreaks L set a (e - a) goes.cumul) same goes.led)), goes.reaches)
