-- What is kept of lists, written stage by stage, and after a list is replaced.
use Rattle.std.proofs.Common.{◌≡◌, ◌∙◌, inl, inr, ℕ, zero, suc, ◌+◌, ◌-◌, ◌<◌, ◌≤◌, List, [], ◌∷◌, ◌++◌, length, length-set, reverse, take, drop, refl, sym, ap}
use Rattle.std.proofs.Common.{subst, add-one, arith, Option, Some, None}
use Rattle.std.specs.Prelude.{All, IsTrue, ℤ, pos, option_map, slice_index_or, slice_set}
use Rattle.std.specs.List.{list_all}
use Rattle.std.proofs.lemmas.Bool.{and_parts, cases_lt}
use Rattle.std.proofs.lemmas.List.{take-append-drop, get_or-set_same, get_or_append_left, get_or_push, length-reverse, take_all}
use Rattle.std.proofs.lemmas.List.Elements.{All-take}
use Rattle.std.proofs.lemmas.List.Sums.{fold_more}
use Rattle.std.specs.Option.{option_and_then}
use Rattle.vr_model.specs.moves.Moves.{with_route}
use Rattle.vr_model.specs.tables.Tables.{is_visit, vehicle_at}
use Rattle.vr_model.specs.declared.records.Model.{Model}
use Rattle.vr_model.proofs.routes.Lists.{route_set_other}
use Rattle.vr_model.specs.declared.records.ScheduleRule.{ScheduleRule}
use Rattle.vr_model.specs.declared.records.ScheduleRule.TheVariants.{Earliest, Tight}
use Rattle.vr_parts.proofs.RowLemmas.{set-at}
use Rattle.vr_costfilter.specs.Floors.{end_step, first_step_or, stop_floor, AreAimed, IsVisitStep}
use Rattle.vr_costfilter.specs.Runs.{between_runs, Runs, AreRuns}
use Rattle.vr_costfilter.specs.Stages.{along, setting_out, stage_at_start, to_end, to_visit, visit_more, along_to_end, IsStageOf}
use Rattle.vr_costfilter.specs.KeptWays.{AreKeptWays, HaveKeptWays}
use Rattle.vr_costfilter.specs.Kept.{AreAsMany, AreKept, HasRoom, IsKept}
use Rattle.vr_costfilter.specs.Steps.{steps_of, AreAllStages, AreKnownSteps, AreStages, AreSteps, HasStages}
use Rattle.vr_costfilter.specs.KeptWays.{KeptTightWays}
use Rattle.vr_costfilter.specs.declared.guides.Stage.{Stage}
use Rattle.vr_costfilter.specs.declared.kept.KeptList.{KeptList}
use Rattle.vr_costfilter.specs.declared.steps.KeptSteps.{KeptSteps}
use Rattle.vr_costfilter.specs.declared.trails.Step.{Step}
use Rattle.vr_costfilter.proofs.FloorLemmas.{aimed-left, many-steps, step-read}
use Rattle.vr_costfilter.proofs.RunLemmas.{end-some, finish-run, same-aimed, same-along, same-end, same-end-step, same-out, start-run, start-some}
use Rattle.vr_costfilter.proofs.StageLemmas.{some-same, stage-more, whole-append}

module _ (model : Model) (d v : ℕ) (runs : Runs) (list : List ℕ) (steps : List Step) where
  abbrev out : Option Stage
  out = setting_out model d v runs (first_step_or steps (end_step model v runs))

  -- the stage at the start
  pub first-stage : (stages : List Stage) (stage : Stage) → stages ≡ stage ∷ []
      → setting_out model d v runs (first_step_or steps (end_step model v runs)) ≡ Some stage
      → IsStageOf model 1 stage → AreStages model d v runs steps 0 stages
  first-stage stages stage is e range = subst (AreStages model d v runs steps 0) (sym is) (record {
    each = λ k other le. let none : 0 ≡ k = omega (arith, le) in
        subst (λ n. along model d v runs out (take n steps) ≡ Some (slice_index_or (stage ∷ []) n other)) none e;
    at = λ k other less. absurd (omega (arith, less));
    range = λ k other le. let none : 0 ≡ k = omega (arith, le) in subst (λ n. IsStageOf model 1 (slice_index_or (stage ∷ []) n other)) none range;
  })

  -- the stage at one visit more
  pub stages-more : (n : ℕ) (stages more : List Stage) (next : Stage) → n < length steps
      → length stages ≡ suc n → AreStages model d v runs steps n stages → more ≡ stages ++ next ∷ []
      → ((other : Stage) → to_visit model d v runs (slice_index_or steps n (end_step model v runs)) (slice_index_or stages n other) ≡ Some next)
      → next.at ≡ (slice_index_or steps n (end_step model v runs)).node → IsStageOf model (suc (n + 1)) next
      → AreStages model d v runs steps (n + 1) more
  stages-more n stages more next low many are is told at range = subst (AreStages model d v runs steps (n + 1)) (sym is) (record {
    each = λ k other le. elim (cases_lt k (suc n)) [
      | inl less ↦ are.each k other (omega (arith, less)) ∙ ap (λ s. Some s) (sym (get_or_append_left stages (next ∷ []) other k (omega (arith, less, many))))
      | inr high ↦ (let here : n + 1 ≡ k = omega (arith, le, high) in
          subst (λ i. along model d v runs out (take i steps) ≡ Some (slice_index_or (stages ++ next ∷ []) i other)) here
          (fold_more (visit_more model d v runs) out steps n (end_step model v runs) low
          ∙ ap (option_and_then (to_visit model d v runs (slice_index_or steps n (end_step model v runs)))) (are.each n other (omega arith)) ∙ told other
          ∙ ap (λ s. Some s) (sym (get_or_push stages next other (n + 1) (omega (arith, many))))))
    ];
    at = λ k other less. elim (cases_lt k n) [
      | inl before ↦ ap (λ (s : Stage). s.at) (get_or_append_left stages (next ∷ []) other (suc k) (omega (arith, before, many))) ∙ are.at k other before
      | inr high ↦ (let here : n ≡ k = omega (arith, less, high) in
          subst (λ i. (slice_index_or (stages ++ next ∷ []) (suc i) other).at ≡ (slice_index_or steps i (end_step model v runs)).node) here
          (ap (λ (s : Stage). s.at) (get_or_push stages next other (suc n) (omega (arith, many))) ∙ at))
    ];
    range = λ k other le. elim (cases_lt k (suc n)) [
      | inl less ↦ subst (IsStageOf model (suc (n + 1))) (sym (get_or_append_left stages (next ∷ []) other k (omega (arith, less, many))))
          (stage-more model (suc n) (suc (n + 1)) _ (omega arith) (are.range k other (omega (arith, less))))
      | inr high ↦ (let here : n + 1 ≡ k = omega (arith, le, high) in
          subst (λ i. IsStageOf model (suc (n + 1)) (slice_index_or (stages ++ next ∷ []) i other)) here
          (subst (IsStageOf model (suc (n + 1))) (sym (get_or_push stages next other (n + 1) (omega (arith, many)))) range))
    ];
  })

  -- the stage at the end
  pub stages-whole : AreSteps model d v runs list steps → All (IsVisitStep model) steps → (stages more : List Stage) (end : Stage)
      → length steps ≡ length list → length stages ≡ suc (length list) → AreStages model d v runs steps (length list) stages → more ≡ stages ++ end ∷ []
      → ((other : Stage) → to_end model d v runs (slice_index_or stages (length list) other) ≡ Some end)
      → IsStageOf model (suc (suc (length list))) end → AreAllStages model d v runs list steps more
  stages-whole steps_are known stages more end long many are is told range =
      let at_end : (other : Stage) → slice_index_or (stages ++ end ∷ []) (suc (length list)) other ≡ end = λ other. get_or_push stages
      end other (suc (length list)) (omega (arith, many)) in
      let left : (k : ℕ) (other : Stage) → k ≤ length list → slice_index_or (stages ++ end ∷ []) k other ≡ slice_index_or stages k other =
      λ k other le. get_or_append_left stages (end ∷ []) other k (omega (arith, many, le)) in
      subst (AreAllStages model d v runs list steps) (sym is) (record {
        steps_are = steps_are;
        known = known;
        stages_are = record {
          each = λ k other le. are.each k other le ∙ ap (λ s. Some s) (sym (left k other le));
          at = λ k other less. ap (λ (s : Stage). s.at) (left (suc k) other (omega (arith, less))) ∙ are.at k other less;
          range = λ k other le. subst (IsStageOf model (suc (length list))) (sym (left k other le)) (are.range k other le);
        };
        end = λ other. ap (λ l. along_to_end model d v runs out l) (sym (take_all (length list) steps (omega (arith, long))))
            ∙ ap (option_and_then (to_end model d v runs)) (are.each (length list) other (omega arith)) ∙ told other ∙ ap (λ s. Some s) (sym (at_end other));
        end_range = λ other. subst (IsStageOf model (suc (suc (length list)))) (sym (at_end other)) range;
      })

  -- from a stage that is kept the vehicle comes to the end that is kept
  pub kept-rest : (stages : List Stage) → AreAllStages model d v runs list steps stages → (k : ℕ) (other : Stage) → k ≤ length list
      → along_to_end model d v runs (Some (slice_index_or stages k other)) (drop k steps) ≡ Some (slice_index_or stages (suc (length list)) other)
  kept-rest stages are k other le =
      ap (λ o. along_to_end model d v runs o (drop k steps)) (sym (are.stages_are.each k other le))
      ∙ sym (whole-append model d v runs out (take k steps) (drop k steps))
      ∙ ap (along_to_end model d v runs out) (take-append-drop k steps) ∙ are.end other

  -- the numbers of stages that are kept
  pub kept-small : (stages read : List Stage) → AreAllStages model d v runs list steps stages → read ≡ stages
      → length list ≤ 1000 → (k : ℕ) (other : Stage) → k ≤ length list → IsStageOf model 1002 (slice_index_or read k other)
  kept-small stages read are is few k other le =
      subst (λ (l : List Stage). IsStageOf model 1002 (slice_index_or l k other)) (sym is)
      (stage-more model (suc (length list)) 1002 _ (omega (arith, few)) (are.stages_are.range k other le))

  pub end-small : (stages read : List Stage) → AreAllStages model d v runs list steps stages → read ≡ stages
      → length list ≤ 1000 → (other : Stage) → IsStageOf model 1002 (slice_index_or read (length list + 1) other)
  end-small stages read are is few other =
      subst (λ (l : List Stage). IsStageOf model 1002 (slice_index_or l (length list + 1) other)) (sym is)
      (subst (λ n. IsStageOf model 1002 (slice_index_or stages n other)) (sym (add-one (length list)))
      (stage-more model (suc (suc (length list))) 1002 _ (omega (arith, few)) (are.end_range other)))

  -- the stage at the start that is kept
  pub kept-out : (stages : List Stage) → AreAllStages model d v runs list steps stages → (other : Stage)
      → setting_out model d v runs (first_step_or steps (end_step model v runs)) ≡ Some (slice_index_or stages 0 other)
  kept-out stages are other = are.stages_are.each 0 other (omega arith)

-- as many steps are kept as there are visits
pub items-many : (model : Model) (d v : ℕ) (runs : Runs) (list : List ℕ) (items : List Step)
    → AreSteps model d v runs list (reverse items) → length items ≡ length list
items-many model d v runs list items are = sym (length-reverse items) ∙ many-steps model d v runs list (reverse items) are

-- what is read of the steps and the stages that are kept of a list
module _ {model : Model} {d v : ℕ} {runs : Runs} {list : List ℕ} {kept : KeptSteps} (sound : AreKnownSteps model d v runs list kept) where
  many : length kept.trail.steps.items ≡ length list
  many = items-many model d v runs list kept.trail.steps.items sound.stages.steps_are

  -- there are as many steps as visits
  pub steps-long : length (steps_of kept) ≡ length list
  steps-long = length-reverse kept.trail.steps.items ∙ many

  -- the step to a visit
  module _ {read : List Step} (is : read ≡ kept.trail.steps.items) (k : ℕ) (low : k < length list) where
    pub step-inside : length list - 1 - k < length read
    step-inside = let same = ap length is in omega (arith, same, many, low)

    pub step-there : (one other : Step) → slice_index_or read (length list - 1 - k) one ≡ slice_index_or (steps_of kept) k other
    step-there one other = step-read kept.trail.steps.items read (length list) k one other is many low

    pub step-known : (one : Step) → IsVisitStep model (slice_index_or read (length list - 1 - k) one)
    step-known one = subst (IsVisitStep model) (sym (step-there one one)) (sound.stages.known k one (omega (arith, low, steps-long)))

  -- the stage at a stop
  pub stage-known : {read : List Stage} → read ≡ kept.stages.items → (k : ℕ) (other : Stage)
      → k ≤ length list → IsStageOf model 1002 (slice_index_or read k other)
  stage-known {read} is k other le = kept-small model d v runs list (steps_of kept) kept.stages.items read sound.stages is sound.few k other le

-- what is kept at the start is a stage at a cumul
pub out-standing : (model : Model) (d v : ℕ) (runs : Runs) (next : Step) (stage : Stage)
    → setting_out model d v runs next ≡ Some stage → stage ≡ stage_at_start model d v stage.cumul
out-standing model d v runs next stage e = by (stop_floor model d v (vehicle_at model v).start runs.start next) e
  where
    by : (o : Option ℤ) → option_map (stage_at_start model d v) o ≡ Some stage → stage ≡ stage_at_start model d v stage.cumul
    by None e = absurd (cc)
    by (Some x) e = subst (λ (s : Stage). s ≡ stage_at_start model d v s.cumul) (some-same (stage_at_start model d v x) stage e) refl

-- the nodes of a list are visits
pub all-visits : (model : Model) (list : List ℕ) → IsTrue (list_all (is_visit model) list) → All (λ node. IsTrue (is_visit model node)) list
all-visits model (x ∷ xs) all zero other low = (and_parts (is_visit model x) (list_all (is_visit model) xs) all).0
all-visits model (x ∷ xs) all (suc k) other low =
    all-visits model xs (and_parts (is_visit model x) (list_all (is_visit model) xs) all).1 k other (omega (arith, low))
all-visits model [] all k other low = absurd (omega (arith, low))

-- what is kept by one table is kept by each
pub stages-so : (model : Model) (d v : ℕ) (runs others : Runs) → AreRuns model d v runs → AreRuns model d v others
    → (list : List ℕ) (kept : KeptSteps) → HasStages model d v runs list kept → HasStages model d v others list kept
stages-so model d v runs others of_these of_others list kept is = record { told = λ many. by_others (is.told many) }
  where
    none : Stage
    none = record { at = 0; cumul = pos 0; soft = pos 0 }

    by_others : AreAllStages model d v runs list (steps_of kept) kept.stages.items → AreAllStages model d v others list (steps_of kept) kept.stages.items
    by_others are =
        let steps : List Step = steps_of kept in
        let end : Step = end_step model v runs in
        let first : Step = first_step_or steps end in
        let start = start-run model d v runs others of_these of_others
        (start-some model d v runs first (slice_index_or kept.stages.items 0 none) (are.stages_are.each 0 none (omega arith))) in
        let finish = finish-run model d v runs others of_these of_others
        (end-some model d v runs (along model d v runs (setting_out model d v runs first) steps)
        (slice_index_or kept.stages.items (suc (length list)) none) (are.end none)) in
        let last = same-end-step model d v runs others of_these of_others finish in
        let aimed = same-aimed model d v runs others of_these of_others steps end are.steps_are.aimed are.known in
        let out = same-out model d v runs others of_these of_others start first ∙ ap (λ e. setting_out model d v others (first_step_or steps e)) last in
        let gone : (o : Option Stage) (k : ℕ) → along model d v runs o (take k steps) ≡ along model d v others o (take k steps) =
        λ o k. same-along model d v runs others of_these of_others o (take k steps) (first_step_or (drop k steps) end)
        (aimed-left model d v runs (take k steps) (drop k steps) end
        (subst (λ l. AreAimed model d v runs l end) (sym (take-append-drop k steps)) are.steps_are.aimed))
        (All-take (IsVisitStep model) k steps are.known) in
        let all = same-along model d v runs others of_these of_others (setting_out model d v runs first) steps end are.steps_are.aimed are.known in
        record {
          steps_are = record { nodes_are = are.steps_are.nodes_are; aimed = subst (AreAimed model d v others steps) last aimed };
          known = are.known;
          stages_are = record {
            each = λ k other le. sym (gone (setting_out model d v runs first) k ∙ ap (λ o. along model d v others o (take k steps)) out)
                ∙ are.stages_are.each k other le;
            at = λ k other less. are.stages_are.at k other less ∙ ap (λ e. (slice_index_or steps k e).node) last;
            range = are.stages_are.range;
          };
          end = λ other.
              sym (ap (option_and_then (to_end model d v runs)) (all ∙ ap (λ o. along model d v others o steps) out)
              ∙ same-end model d v runs others of_these of_others finish
              (along model d v others (setting_out model d v others (first_step_or steps (end_step model v others))) steps)) ∙ are.end other;
          end_range = are.end_range;
        }

-- so is what is kept between two cumuls of the ends
pub stages-between : (model : Model) (d v : ℕ) (runs others : Runs) → AreRuns model d v runs
    → AreRuns model d v others → (s e : ℤ) (list : List ℕ) (kept : KeptSteps)
    → HasStages model d v (between_runs runs s e) list kept → HasStages model d v (between_runs others s e) list kept
stages-between model d v runs others of_these of_others s e list kept is = record { told = λ many. by_others (is.told many) }
  where
    by_others : AreAllStages model d v (between_runs runs s e) list (steps_of kept) kept.stages.items
        → AreAllStages model d v (between_runs others s e) list (steps_of kept) kept.stages.items
    by_others are =
        let steps : List Step = steps_of kept in
        let end : Step = end_step model v (between_runs runs s e) in
        let out : Option Stage = setting_out model d v (between_runs runs s e) (first_step_or steps end) in
        let aimed : AreAimed model d v runs steps end = record { each = are.steps_are.aimed.each } in
        let aimed_too = same-aimed model d v runs others of_these of_others steps end aimed are.known in
        let gone : (k : ℕ) → along model d v runs out (take k steps) ≡ along model d v others out (take k steps) =
        λ k. same-along model d v runs others of_these of_others out (take k steps) (first_step_or (drop k steps) end)
        (aimed-left model d v runs (take k steps) (drop k steps) end (subst (λ l. AreAimed model d v runs l end) (sym (take-append-drop k steps)) aimed))
        (All-take (IsVisitStep model) k steps are.known) in
        let all = same-along model d v runs others of_these of_others out steps end aimed are.known in
        record {
          steps_are = record { nodes_are = are.steps_are.nodes_are; aimed = record { each = aimed_too.each } };
          known = are.known;
          stages_are = record {
            each = λ k other le. sym (gone k) ∙ are.stages_are.each k other le;
            at = λ k other less. are.stages_are.at k other less;
            range = λ k other le. are.stages_are.range k other le;
          };
          end = λ other. sym (ap (option_and_then (to_end model d v (between_runs runs s e))) all) ∙ are.end other;
          end_range = are.end_range;
        }

-- the two rules are not the same
pub other-rule : Earliest ≡ Tight → ⊥
other-rule e = Prim.cc

-- nothing is told where there are too few stages
pub stages-none : (model : Model) (d v : ℕ) (runs : Runs) (list : List ℕ) (kept : KeptSteps)
    → length kept.stages.items ≤ suc (length list) → HasStages model d v runs list kept
stages-none model d v runs list kept few = record { told = λ many. absurd (omega (arith, few, many)) }

-- what is written of a list in place of the first, where there is one
pub ends-set : (model : Model) (d v : ℕ) (list : List ℕ) (ends : List KeptTightWays) (new : KeptTightWays)
    → AreKeptWays model d v list new → HaveKeptWays model d v list (slice_set ends 0 new)
ends-set model d v list ends new is = record {
  first = λ other low. subst (AreKeptWays model d v list) (sym (get_or-set_same ends 0 new other (let n = length-set ends 0 new in omega (arith, n, low)))) is;
}

pub ends-none : (model : Model) (d v : ℕ) (list : List ℕ) (ends : List KeptTightWays) → length ends ≡ 0 → HaveKeptWays model d v list ends
ends-none model d v list ends none = record { first = λ other low. absurd (omega (arith, none, low)) }

-- ---- a list is replaced

pub kept-set : (model : Model) (d : ℕ) (lists : List (List ℕ)) (kept : List KeptList) (v : ℕ) (list : List ℕ) (new : KeptList)
    → AreKept model d lists kept → v < length lists → v < length kept → IsKept model d v list new
    → HasRoom (vehicle_at model v).schedule new → AreKept model d (with_route lists v list) (slice_set kept v new)
kept-set model d lists kept v list new h known low is room = record {
  each = λ u other under. set-at (IsKept model d) lists kept v list new low is u other
      (λ _. known) (λ _. h.each u other (let l = length-set kept v new in omega (arith, under, l)));
  room = λ u other under. set-at (λ (w : ℕ) (l : List ℕ) (k : KeptList). HasRoom (vehicle_at model w).schedule k) lists kept
      v list new low room u other (λ _. known) (λ _. h.room u other (let l = length-set kept v new in omega (arith, under, l)));
}

-- as much room as before
pub room-stays : (rule : ScheduleRule) (old new : KeptList) → length new.ends.items ≡ length old.ends.items → HasRoom rule old → HasRoom rule new
room-stays rule old new same room = same ∙ room

-- where it is not kept, what is kept stays
pub kept-stays : (model : Model) (d : ℕ) (lists : List (List ℕ)) (kept : List KeptList) (v : ℕ) (list : List ℕ)
    → AreKept model d lists kept → length kept ≤ v → AreKept model d (with_route lists v list) kept
kept-stays model d lists kept v list h high = record {
  each = λ u other under. subst (λ l. IsKept model d u l (slice_index_or kept u other))
      (sym (route_set_other lists v u list (λ e. absurd (omega (arith, e, under, high))))) (h.each u other under);
  room = λ u other under. h.room u other under;
}

-- something is kept of as many lists as it was before, and before that
pub as-many-same : (kept : List (List KeptList)) → AreAsMany kept kept
as-many-same kept = record { many = refl; each = λ d other low. refl }

pub as-many-then : (old next new : List (List KeptList)) → AreAsMany old next → AreAsMany next new → AreAsMany old new
as-many-then old next new first then = record {
  many = then.many ∙ first.many;
  each = λ d other low. then.each d other low ∙ first.each d other (omega (arith, then.many, low));
}
