-- The cumuls before and after which breaks fit.
use Rattle.std.specs.Prelude.{◌↔◌, ℕ, ◌<◌, ◌≤◌, IsTrue, Option, IfSome, IsNone, List, length, drop, ℤ, pos, ◌≤ℤ◌}
use Rattle.vr_spans.specs.declared.runs.Run.{Run}
use Rattle.vr_spans.specs.Runs.{has}
use Rattle.vr_model.specs.tables.Numbers.{horizon}
use Rattle.vr_model.specs.schedules.Levels.{FitBefore, FitAfter}
use Rattle.vr_steps.specs.Levels.{level_at}
use Rattle.vr_model.specs.declared.records.BreakRow.{BreakRow}

-- the least cumul before which the breaks fit. They fit before each greater one too
pub record IsEarliest (rows : List BreakRow) (first : ℤ) : Type 0 where
  pub low : pos 0 ≤ℤ first
  pub high : first ≤ℤ horizon
  pub exact : (x : ℤ) → pos 0 ≤ℤ x → x ≤ℤ horizon → FitBefore rows x ↔ (first ≤ℤ x)

-- the greatest cumul after which the breaks fit. They fit after each lesser one too
pub record IsLatest (rows : List BreakRow) (last : ℤ) : Type 0 where
  pub low : pos 0 ≤ℤ last
  pub high : last ≤ℤ horizon
  pub exact : (x : ℤ) → pos 0 ≤ℤ x → x ≤ℤ horizon → FitAfter rows x ↔ (x ≤ℤ last)

-- the answer of a search for a bound: one that is as asked, or none, and then no cumul is so
pub record IsBoundFound (IsBound So : ℤ → Type 0) (found : Option ℤ) : Type 0 where
  pub some : IfSome found IsBound
  pub none : IsNone found → (x : ℤ) → pos 0 ≤ℤ x → x ≤ℤ horizon → So x → ⊥

-- the set has the allowed cumuls before which these breaks fit
abbrev pub FitsBefore : List Run → List BreakRow → List Run → Type 0
FitsBefore allowed rows set = (x : ℤ) → IsTrue (has set x) ↔ (IsTrue (has allowed x) × FitBefore rows x)

-- the set has the allowed cumuls after which these breaks fit
abbrev pub FitsAfter : List Run → List BreakRow → List Run → Type 0
FitsAfter allowed rows set = (x : ℤ) → IsTrue (has set x) ↔ (IsTrue (has allowed x) × FitAfter rows x)

-- with some number of breaks taken, a cumul is there after which the others fit
abbrev pub CanEnd : List (List Run) → List BreakRow → Type 0
CanEnd levels breaks = (b : ℕ) × (b ≤ length breaks) × (x : ℤ) × IsTrue (has (level_at levels b) x)
    × FitAfter (drop b breaks) x

-- with some number of breaks below n taken, a cumul is there after which the others fit
abbrev pub CanEndBelow : List (List Run) → List BreakRow → ℕ → Type 0
CanEndBelow levels breaks n = (b : ℕ) × (b < n) × (x : ℤ) × IsTrue (has (level_at levels b) x)
    × FitAfter (drop b breaks) x
