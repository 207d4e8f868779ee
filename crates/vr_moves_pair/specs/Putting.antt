-- Pairs that are put into lists.
use Rattle.std.specs.Prelude.{ℕ, suc, List, length, map, filter}
use Rattle.vr_model.specs.tables.Numbers.{each, from_to}
use Rattle.vr_model.specs.moves.Moves.{changes_the_list, gaps, without_pair}
use Rattle.vr_model.specs.declared.records.Pair.{Pair}
use Rattle.vr_model.specs.declared.neighbours.Move.{Move}
use Rattle.vr_model.specs.declared.neighbours.Move.TheVariants.{RelocatePair}

-- the moves that put pair p into the list of w, but for the one that leaves it as it is
abbrev pub puts_into : Pair → ℕ → ℕ → List ℕ → List Move
puts_into pair p w list =
    let rest = without_pair pair list in
    each (gaps rest) λ s.
    map (RelocatePair p w s) (filter (changes_the_list pair list rest s) (from_to s (suc (length rest))))
