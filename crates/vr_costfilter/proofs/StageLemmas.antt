-- Going on along stops, and with another cost behind.
use Rattle.std.proofs.Common.{◌≡◌, ◌∙◌, ◌+◌, ◌<◌, ◌≤◌, ℕ, drop, length, Bool, true, false, cond, List, [], ◌∷◌, ◌++◌, refl, sym, ap, ap₂, subst, arith, Option}
use Rattle.std.proofs.Common.{Some, None}
use Rattle.std.specs.Prelude.{ℤ, pos, ◌+ℤ◌, ◌-ℤ◌, ◌&&◌, IsTrue, int_le, option_map, slice_index_or, unwrap_or}
use Rattle.std.specs.Option.{option_and_then}
use Rattle.std.proofs.lemmas.Bool.{and_parts, and_from}
use Rattle.std.proofs.lemmas.Int.{ints}
use Rattle.std.proofs.lemmas.List.{drop_more}
use Rattle.std.proofs.lemmas.List.Sums.{fold-append}
use Rattle.vr_spans.specs.declared.runs.Run.{Run}
use Rattle.vr_model.specs.routes.Costs.{row_cost}
use Rattle.vr_model.specs.tables.Tables.{dimension_at, row_of, transit, vehicle_at}
use Rattle.vr_model.specs.declared.records.Model.{Model}
use Rattle.vr_model.specs.declared.records.StopRow.{StopRow}
use Rattle.vr_reach.specs.Early.{has_cumul_behind, IsEarliestBehind}
use Rattle.vr_costfilter.specs.Runs.{Runs}
use Rattle.vr_costfilter.specs.Stages.{along, go_on, can_go_on, next_cumul, paid_more, to_end, to_visit, visit_more, along_to_end, IsStageOf}
use Rattle.vr_costfilter.specs.declared.guides.Stage.{Stage}
use Rattle.vr_costfilter.specs.declared.trails.Step.{Step}

-- ---- one stop further

-- a stage that follows another one
pub record IsBehind (t s : ℤ) (node : ℕ) (allowed : Run) (row : Option StopRow) (stage next : Stage) : Type 0 where
  pub earliest : IsEarliestBehind stage.cumul t s allowed next.cumul
  pub at : next.at ≡ node
  pub soft : next.soft ≡ stage.soft +ℤ row_cost row next.cumul

pub had-so : (cumul t s : ℤ) (allowed : Run) → IsTrue (can_go_on cumul t s allowed) → IsEarliestBehind cumul t s allowed (next_cumul cumul t allowed)
had-so cumul t s allowed had =
    let two = and_parts (int_le (next_cumul cumul t allowed) allowed.hi) (int_le (next_cumul cumul t allowed -ℤ (cumul +ℤ t)) s) had in
    record { least = refl; most = grind (arith, ints, two.0); slack = grind (arith, ints, two.1) }

pub some-same : (a b : Stage) → Some a ≡ Some b → a ≡ b
some-same a b e = ap (λ o. unwrap_or o a) e

-- what is gone on to follows
pub gone : (t s : ℤ) (node : ℕ) (allowed : Run) (row : Option StopRow) (stage next : Stage)
    → go_on t s node allowed row stage ≡ Some next → IsBehind t s node allowed row stage next
gone t s node allowed row stage next e = by (can_go_on stage.cumul t s allowed) refl e
  where
    by : (b : Bool) → can_go_on stage.cumul t s allowed ≡ b
        → cond b
        (Some (record { at = node; cumul = next_cumul stage.cumul t allowed; soft = stage.soft +ℤ row_cost row (next_cumul stage.cumul t allowed) })) None
        ≡ Some next
        → IsBehind t s node allowed row stage next
    by true had e =
        subst (IsBehind t s node allowed row stage)
        (some-same (record { at = node; cumul = next_cumul stage.cumul t allowed; soft = stage.soft +ℤ row_cost row (next_cumul stage.cumul t allowed) })
        next e)
        (record { earliest = had-so stage.cumul t s allowed had; at = refl; soft = refl })
    by false had e = absurd (cc)

-- what follows is gone on to
pub going : (t s : ℤ) (node : ℕ) (allowed : Run) (row : Option StopRow) (stage : Stage) (cumul soft : ℤ)
    → IsEarliestBehind stage.cumul t s allowed cumul → soft ≡ stage.soft +ℤ row_cost row cumul
    → go_on t s node allowed row stage ≡ Some (record { at = node; cumul = cumul; soft = soft })
going t s node allowed row stage cumul soft is costs =
    let least = is.least in
    let a : IsTrue (int_le cumul allowed.hi) = grind (arith, ints, is.most) in
    let b : IsTrue (int_le (cumul -ℤ (stage.cumul +ℤ t)) s) = grind (arith, ints, is.slack) in
    let had : can_go_on stage.cumul t s allowed ≡ true = subst (λ c. IsTrue (int_le c allowed.hi && int_le (c -ℤ (stage.cumul +ℤ t)) s))
    least (and_from _ _ a b) in
    ap (λ b. cond b
    (Some (record { at = node; cumul = next_cumul stage.cumul t allowed; soft = stage.soft +ℤ row_cost row (next_cumul stage.cumul t allowed) })) None) had
    ∙ ap₂ (λ (c : ℤ) (x : ℤ). Some (record { at = node; cumul = c; soft = x })) (sym least) (ap (λ c. stage.soft +ℤ row_cost row c) (sym least) ∙ sym costs)

-- the same, where the numbers are those that were read
pub going-as : (t s : ℤ) (node : ℕ) (allowed : Run) (row : Option StopRow) (stage : Stage) (from t_read s_read next : ℤ)
    → from ≡ stage.cumul → t_read ≡ t → s_read ≡ s → IsEarliestBehind from t_read s_read allowed next
    → (cumul soft : ℤ) → cumul ≡ next → soft ≡ stage.soft +ℤ row_cost row next
    → go_on t s node allowed row stage ≡ Some (record { at = node; cumul = cumul; soft = soft })
going-as t s node allowed row stage from t_read s_read next from_is t_is s_is behind cumul soft cumul_is soft_is =
    let a = subst (λ x. IsEarliestBehind x t_read s_read allowed next) from_is behind in
    let b = subst (λ x. IsEarliestBehind stage.cumul x s_read allowed next) t_is a in
    let c = subst (λ x. IsEarliestBehind stage.cumul t x allowed next) s_is b in
    going t s node allowed row stage next soft c soft_is ∙ ap (λ (x : ℤ). Some (record { at = node; cumul = x; soft = soft })) (sym cumul_is)

-- nothing follows where there is no such cumul
pub stuck-as : (t s : ℤ) (node : ℕ) (allowed : Run) (row : Option StopRow) (stage : Stage) (from t_read s_read : ℤ)
    → from ≡ stage.cumul → t_read ≡ t → s_read ≡ s → has_cumul_behind from t_read s_read allowed ≡ false
    → go_on t s node allowed row stage ≡ None
stuck-as t s node allowed row stage from t_read s_read from_is t_is s_is none =
    let a = subst (λ x. has_cumul_behind x t_read s_read allowed ≡ false) from_is none in
    let b = subst (λ x. has_cumul_behind stage.cumul x s_read allowed ≡ false) t_is a in
    let c : can_go_on stage.cumul t s allowed ≡ false = subst (λ x. has_cumul_behind stage.cumul t x allowed ≡ false) s_is b in
    ap (λ b. cond b
    (Some (record { at = node; cumul = next_cumul stage.cumul t allowed; soft = stage.soft +ℤ row_cost row (next_cumul stage.cumul t allowed) })) None) c

-- the numbers of a stage of fewer stops
pub stage-more : (model : Model) (n m : ℕ) (stage : Stage) → n ≤ m → IsStageOf model n stage → IsStageOf model m stage
stage-more model n m stage le h = record {
  at = h.at;
  cumul = h.cumul;
  not_negative = h.not_negative;
  bound = omega (arith, ints, h.bound, le);
}

-- ---- another cost behind

swapped : (a b c : ℤ) → (a +ℤ b) +ℤ c ≡ (a +ℤ c) +ℤ b
swapped a b c = omega (arith, ints)

go-shift : (z t s : ℤ) (node : ℕ) (allowed : Run) (row : Option StopRow) (stage : Stage)
    → go_on t s node allowed row (paid_more z stage) ≡ option_map (paid_more z) (go_on t s node allowed row stage)
go-shift z t s node allowed row stage = by (can_go_on stage.cumul t s allowed)
  where
    c : ℤ
    c = next_cumul stage.cumul t allowed

    by : (b : Bool) → cond b
        (Some (record { at = node; cumul = next_cumul stage.cumul t allowed; soft = (stage.soft +ℤ z) +ℤ row_cost row (next_cumul stage.cumul t allowed) }))
        None
        ≡ option_map (paid_more z)
        (cond b
        (Some (record { at = node; cumul = next_cumul stage.cumul t allowed; soft = stage.soft +ℤ row_cost row (next_cumul stage.cumul t allowed) })) None)
    by true = ap (λ (x : ℤ). Some (record { at = node; cumul = next_cumul stage.cumul t allowed; soft = x }))
        (swapped stage.soft z (row_cost row (next_cumul stage.cumul t allowed)))
    by false = refl

module _ (model : Model) (d v : ℕ) (runs : Runs) where
  more-shift : (z : ℤ) (o : Option Stage) (step : Step)
      → visit_more model d v runs (option_map (paid_more z) o) step ≡ option_map (paid_more z) (visit_more model d v runs o step)
  more-shift z None step = refl
  more-shift z (Some stage) step =
      go-shift z (transit model d v stage.at step.node) (dimension_at model d).slack_max step.node _ (row_of (dimension_at model d).nodes step.node) stage

  along-shift : (z : ℤ) (o : Option Stage) (steps : List Step)
      → along model d v runs (option_map (paid_more z) o) steps ≡ option_map (paid_more z) (along model d v runs o steps)
  along-shift z o [] = refl
  along-shift z o (x ∷ xs) = ap (λ p. along model d v runs p xs) (more-shift z o x) ∙ along-shift z (visit_more model d v runs o x) xs

  end-shift : (z : ℤ) (o : Option Stage)
      → option_and_then (to_end model d v runs) (option_map (paid_more z) o) ≡ option_map (paid_more z) (option_and_then (to_end model d v runs) o)
  end-shift z None = refl
  end-shift z (Some stage) = go-shift z (transit model d v stage.at (vehicle_at model v).end)
      (dimension_at model d).slack_max (vehicle_at model v).end runs.finish (row_of (dimension_at model d).ends v) stage

  pub whole-shift : (z : ℤ) (o : Option Stage) (steps : List Step)
      → along_to_end model d v runs (option_map (paid_more z) o) steps ≡ option_map (paid_more z) (along_to_end model d v runs o steps)
  whole-shift z o steps = ap (option_and_then (to_end model d v runs)) (along-shift z o steps) ∙ end-shift z (along model d v runs o steps)

  -- a stage at the same stop and with the same cumul as another one, but for what was paid on the way
  stage-is : (old new : Stage) → new.at ≡ old.at → new.cumul ≡ old.cumul → (z : ℤ) → new.soft ≡ old.soft +ℤ z → new ≡ paid_more z old
  stage-is old new a c z x = ap₂ (λ (n : ℕ) (y : ℤ). record { at = n; cumul = y; soft = new.soft }) a c
      ∙ ap (λ (y : ℤ). record { at = old.at; cumul = old.cumul; soft = y }) x

  -- it comes to the same end
  pub resumed : (steps : List Step) (old end new : Stage) → along_to_end model d v runs (Some old) steps ≡ Some end
      → new.at ≡ old.at → new.cumul ≡ old.cumul → (z : ℤ) → new.soft ≡ old.soft +ℤ z
      → along_to_end model d v runs (Some new) steps ≡ Some (paid_more z end)
  resumed steps old end new told at cumul z soft =
      ap (λ (s : Stage). along_to_end model d v runs (Some s) steps) (stage-is old new at cumul z soft)
      ∙ whole-shift z (Some old) steps ∙ ap (option_map (paid_more z)) told

  -- and along fewer steps to the same stage
  pub paced : (steps : List Step) (old there new : Stage) → along model d v runs (Some old) steps ≡ Some there
      → new.at ≡ old.at → new.cumul ≡ old.cumul → (z : ℤ) → new.soft ≡ old.soft +ℤ z
      → along model d v runs (Some new) steps ≡ Some (paid_more z there)
  paced steps old there new told at cumul z soft =
      ap (λ (s : Stage). along model d v runs (Some s) steps) (stage-is old new at cumul z soft)
      ∙ along-shift z (Some old) steps ∙ ap (option_map (paid_more z)) told

  -- nothing more was paid
  pub paid-no-more : (stage : Stage) (z : ℤ) → z ≡ pos 0 → stage ≡ paid_more z stage
  paid-no-more stage z none = stage-is stage stage refl refl z (omega (arith, ints, none))

  -- first along some steps, then along others
  pub along-append : (o : Option Stage) (xs ys : List Step) → along model d v runs o (xs ++ ys) ≡ along model d v runs (along model d v runs o xs) ys
  along-append o xs ys = fold-append (visit_more model d v runs) o xs ys

  pub whole-append : (o : Option Stage) (xs ys : List Step)
      → along_to_end model d v runs o (xs ++ ys) ≡ along_to_end model d v runs (along model d v runs o xs) ys
  whole-append o xs ys = ap (option_and_then (to_end model d v runs)) (along-append o xs ys)

  -- one step more
  pub whole-next : (steps : List Step) (k : ℕ) (other : Step) → k < length steps
      → (gone next : Stage) → to_visit model d v runs (slice_index_or steps k other) gone ≡ Some next
      → along_to_end model d v runs (Some next) (drop (k + 1) steps) ≡ along_to_end model d v runs (Some gone) (drop k steps)
  whole-next steps k other low gone next e =
      sym (ap (along_to_end model d v runs (Some gone)) (drop_more steps k other low) ∙ ap (λ o. along_to_end model d v runs o (drop (k + 1) steps)) e)
