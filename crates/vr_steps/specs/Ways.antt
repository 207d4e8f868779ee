-- Walks on and back, under one name.
use Rattle.std.specs.Prelude.{ℕ, IsTrue, List, drop, length, take, ℤ, neg_ℤ, ◌≤ℤ◌}
use Rattle.vr_spans.specs.declared.runs.Run.{Run}
use Rattle.vr_spans.specs.Runs.{has, IsRun, farthest}
use Rattle.vr_model.specs.declared.records.BreakRow.{BreakRow}
use Rattle.vr_steps.specs.declared.hops.Hop.{Hop}
use Rattle.vr_steps.specs.declared.ways.Way.{Way}
use Rattle.vr_steps.specs.declared.ways.Way.TheVariants.{On, Back}
use Rattle.vr_steps.specs.declared.passages.Passage.{Passage}
use Rattle.vr_steps.specs.declared.passages.Pass.{Pass}
use Rattle.vr_steps.specs.Arcs.{Leads}
use Rattle.vr_steps.specs.Fits.{FitsBefore, FitsAfter}
use Rattle.vr_steps.specs.Levels.{AreCrossed, AreCrossedBack, AreEndLevels, AreStartLevels}
use Rattle.vr_steps.specs.Passages.{AreArrivals, AreDepartures, upto, onward}

-- an arc with these breaks inside leads from x on to y, or from x back to y
abbrev pub LeadsBy : Way → Hop → List BreakRow → ℤ → ℤ → Type 0
LeadsBy On hop rows x y = Leads hop rows x y
LeadsBy Back hop rows x y = Leads hop rows y x

-- the numbers of within to which an arc with these breaks inside leads from those of a set
abbrev pub IsLedTo : Way → List Run → Hop → List BreakRow → List Run → ℤ → Type 0
IsLedTo way from hop rows within y
    = IsTrue (has within y) × ((x : ℤ) × IsTrue (has from x) × LeadsBy way hop rows x y)

-- the set has the allowed cumuls to which the arc leads from the levels, with this many breaks taken there
abbrev pub IsLevelBy : Way → List (List Run) → Hop → List Run → List BreakRow → ℕ → List Run → Type 0
IsLevelBy On from hop next breaks b set = AreArrivals from hop next breaks 0 b set
IsLevelBy Back to hop here breaks a set = AreDepartures to hop here breaks a (length breaks) set

-- the levels to which the arc leads
abbrev pub AreCrossedBy : Way → List (List Run) → Hop → List Run → List BreakRow → List (List Run) → Type 0
AreCrossedBy On from hop next breaks reached = AreCrossed from hop next breaks reached
AreCrossedBy Back to hop here breaks reached = AreCrossedBack to hop here breaks reached

-- the set of the allowed cumuls at which a walk in that direction may begin with b breaks taken there
abbrev pub IsBegunBy : Way → List Run → List BreakRow → ℕ → List Run → Type 0
IsBegunBy On allowed breaks b set = FitsBefore allowed (take b breaks) set
IsBegunBy Back allowed breaks b set = FitsAfter allowed (drop b breaks) set

-- the levels of the stop at which a walk in that direction begins
abbrev pub AreBegunBy : Way → List Run → List BreakRow → List (List Run) → Type 0
AreBegunBy On allowed breaks levels = AreStartLevels allowed breaks levels
AreBegunBy Back allowed breaks levels = AreEndLevels allowed breaks levels

-- what a passage asks of the number from which it leads and of that to which it leads
abbrev pub pass_by : Way → Passage → Pass
pass_by On p = record { out = upto p.until; into = onward p.from; least = p.least; greatest = p.greatest }
pass_by Back p = record {
  out = onward p.from;
  into = upto p.until;
  least = neg_ℤ p.greatest;
  greatest = neg_ℤ p.least;
}

-- the numbers of a pass are such that sets can be moved by them
pub record IsOpenPass (pass : Pass) : Type 0 where
  pub out : IsRun pass.out
  pub into : IsRun pass.into
  pub in_order : pass.least ≤ℤ pass.greatest
  pub from : neg_ℤ farthest ≤ℤ pass.least
  pub to : pass.greatest ≤ℤ farthest
