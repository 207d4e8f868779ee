-- How a run ends.
use Rattle.std.specs.Prelude.{◌≡◌, ℕ, List, Option}
use Rattle.vr_model.specs.declared.search.Event.{Event}
use Rattle.vr_app.specs.Ended.{RanBy}
use Rattle.vr_refine.specs.Promises.{AsksPrice, IsNotAccepted, IsSolutionAsked}
use Rattle.vr_refine.specs.Reply.{program_of}

-- a run of the program whose watchers report so ends in this way. The source has this left before and after it, and
-- failed this often. 6 comes only of words that ask for a solution
pub record Ran {K : Type 0} (written : K → Option (List ℕ)) (faults : K → ℕ) (reports : List Event → List ℕ)
    (words : List (List ℕ)) (left_before left_after : Option (List ℕ)) (read_faults_before read_faults_after : ℕ)
    (old new : K) (status : ℕ) : Type 0 where
  pub by : RanBy written faults (program_of reports) (IsNotAccepted words) (AsksPrice words) words
      left_before left_after read_faults_before read_faults_after old new status
  pub none_found_only : status ≡ 6 → IsSolutionAsked words
