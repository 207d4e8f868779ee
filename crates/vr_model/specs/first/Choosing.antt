-- The first entry of a list whose key is least.
use Rattle.std.specs.Prelude.{cond, List, ℤ, Option, Some, None, fold}
use Rattle.vr_model.specs.tables.Numbers.{is_lex_less}

-- the better of what was best so far and y: the one whose key comes first, the earlier one of equal keys
abbrev pub better : {A : Type 0} → (A → List ℤ) → Option A → A → Option A
better key None y = Some y
better key (Some best) y = Some (cond (is_lex_less (key y) (key best)) y best)

-- the first entry of a list whose key is least, in lexicographic order of keys
abbrev pub least_by : {A : Type 0} → (A → List ℤ) → List A → Option A
least_by key xs = fold (better key) None xs
