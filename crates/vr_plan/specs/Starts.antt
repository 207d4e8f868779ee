-- Break starts that are settled one after another.
use Rattle.std.specs.Prelude.{◌≡◌, List, ℤ}
use Rattle.vr_model.specs.schedules.Lines.{Line as Defined}
use Rattle.vr_model.specs.schedules.Schedules.{Plan, IsSchedule, IsChosen, IsFeasible}
use Rattle.vr_steps.specs.declared.lines.Line.{Line}
use Rattle.vr_steps.specs.Lines.{IsLineOf}

-- each schedule of the line has these cumuls
abbrev pub HaveCumuls : Line → List ℤ → Type 0
HaveCumuls line cumuls = (defined : Defined) → IsLineOf defined line → (q : Plan) → IsSchedule defined q → q.cumuls
    ≡ cumuls

-- if the line has a schedule, the chosen one has these break starts
abbrev pub HaveStarts : Line → List ℤ → Type 0
HaveStarts line starts = (defined : Defined) → IsLineOf defined line → IsFeasible defined → (plan : Plan)
    × IsChosen defined plan × (plan.breaks ≡ starts)

-- these are the break starts of the chosen schedule
abbrev pub HaveChosenStarts : Line → List ℤ → Type 0
HaveChosenStarts line starts = (defined : Defined) → IsLineOf defined line → (plan : Plan) → IsChosen defined plan
    → plan.breaks ≡ starts
