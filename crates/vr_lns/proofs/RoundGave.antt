-- What a search has after a round, by the end of the round.
use Rattle.std.proofs.Common.{◌≡◌, ◌∙◌, ℕ, ◌+◌, ◌-◌, ◌<◌, ◌≤◌, List, sym, ap, subst, arith}
use Rattle.std.specs.Prelude.{IsTrue}
use Rattle.vr_model.specs.search.Outcomes.{Outcome, ended, tried}
use Rattle.vr_model.specs.declared.records.Model.{Model}
use Rattle.vr_model.specs.declared.records.End.{End}
use Rattle.vr_model.specs.declared.records.End.TheVariants.{Optimum, Tries}
use Rattle.vr_model.specs.declared.records.Report.{Report}
use Rattle.vr_model.specs.declared.search.Event.{Event}
use Rattle.vr_model.specs.declared.search.Limit.{Limit}
use Rattle.vr_descent.specs.declared.progress.Progress.{Progress}
use Rattle.vr_descent.proofs.GoingOn.{Goes, goes_as}
use Rattle.vr_lns.specs.Cuts.{improves_on}
use Rattle.vr_descent.specs.Ending.{report_of}
use Rattle.vr_lns.specs.Ending.{SearchEndsAs}
use Rattle.vr_lns.specs.Rounds.{Round}
use Rattle.vr_lns.specs.Rounds.Round.{Accepted, Complete, Short}
use Rattle.vr_lns.specs.Standing.{lists_after_round, round_at, round_end, standing_after}
use Rattle.vr_lns.specs.declared.rounds.RoundEnd.{RoundEnd}
use Rattle.vr_lns.specs.declared.rounds.RoundEnd.TheVariants as ends
use Rattle.vr_lns.proofs.BoundLemmas.{made_told, told_by_round, Tells}
use Rattle.vr_lns.proofs.RoundLemmas.{completed, ran_short}
use Rattle.vr_lns.proofs.SearchLemmas.{ends_as, from_here, left_after, standing}

-- where a search stands after a round, and what is left of it
pub record RoundGave {W : Type 0} (after : W → List Event → List ℕ) (whole : Outcome) (model : Model) (most : ℕ)
    (limit : Limit) (lists later : List (List ℕ)) (at now : Progress) (old new : List W) (r : Round) : Type 0 where
  pub at_is : now ≡ standing_after model limit at r
  pub lists_are : later ≡ lists_after_round lists r
  pub goes : Goes after whole (left_after model most limit lists at.used at.found r) old new

-- a cut was made within the tries that were left, and the search goes on from there
pub record CutMade {W : Type 0} (after : W → List Event → List ℕ) (whole : Outcome) (model : Model)
    (most : ℕ) (limit : Limit) (later : List (List ℕ)) (at now : Progress) (old new : List W) : Type 0 where
  pub falls : limit.tries - now.used < limit.tries - at.used
  pub used : now.used ≤ limit.tries
  pub found : now.found ≡ at.found + 1
  pub goes : Goes after whole (from_here model most limit later now.used now.found) old new

module _ {W : Type 0} (after : W → List Event → List ℕ) (whole : Outcome) (model : Model) (most : ℕ)
    (limit : Limit) (lists later : List (List ℕ)) (at now : Progress) (old new : List W) where
  abbrev Gave : Round → Type 0
  Gave r = RoundGave after whole model most limit lists later at now old new r

  abbrev here : Round
  here = round_at model most limit lists at.used

  module _ (gave : Gave here) (told : RoundEnd) (ends_so : told ≡ round_end here) where
    pub cut_made : (place : ℕ) → told ≡ ends.Accepted place → CutMade after whole model most limit later at now old new
    cut_made place is =
        let made = made_told here place (sym is ∙ ends_so) in
        let tells = subst (Tells (λ found. IsTrue (improves_on model lists found)) (limit.tries - at.used) 0)
        made.1 (told_by_round model most lists (limit.tries - at.used)) in
        let so = subst Gave made.1 gave in
        let one = tells.0 in
        let within = tells.1 in
        let used = ap (λ s. s.used) so.at_is in
        record {
          falls = omega (arith, one, within, used);
          used = omega (arith, one, within, used);
          found = ap (λ s. s.found) so.at_is;
          goes = subst (λ s. Goes after whole (from_here model most limit later s.used s.found) old new) (sym so.at_is)
              (subst (λ ls. Goes after whole (from_here model most limit ls (at.used + place) (at.found + 1)) old new) (sym so.lists_are) so.goes);
        }

    -- it ends where all cuts were tried ..
    pub ends_complete : (n : ℕ) → told ≡ ends.Complete n → (report : Report) → report ≡ report_of now Optimum → SearchEndsAs after whole later old new report
    ends_complete n is report report_is =
        let so = subst Gave (completed here n (sym is ∙ ends_so)) gave in
        subst (λ ls. SearchEndsAs after whole ls old new report) (sym so.lists_are)
        (subst (SearchEndsAs after whole lists old new) (sym (report_is ∙ ap (λ s. report_of s Optimum) so.at_is))
        (ends_as after whole (tried (standing model most limit lists at.used at.found) n) Optimum old new so.goes))

    -- .. and where the tries ran out
    pub ends_short : at.used ≤ limit.tries → told ≡ ends.Short → (report : Report)
        → report ≡ report_of now Tries → SearchEndsAs after whole later old new report
    ends_short used is report report_is =
        let so = subst Gave (ran_short here (sym is ∙ ends_so)) gave in
        let all : at.used + (limit.tries - at.used) ≡ limit.tries = omega (arith, used) in
        subst (λ ls. SearchEndsAs after whole ls old new report) (sym so.lists_are)
        (subst (SearchEndsAs after whole lists old new) (sym (report_is ∙ ap (λ s. report_of s Tries) so.at_is))
        (ends_as after whole (standing model most limit lists limit.tries at.found) Tries old new
        (goes_as after whole _ _ old new (ap (λ k. ended (standing model most limit lists k at.found) Tries) all) so.goes)))
