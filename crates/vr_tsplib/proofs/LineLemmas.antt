-- Lines, one after another.
use Rattle.std.proofs.Common.{◌≡◌, ◌∙◌, ℕ, ◌+◌, ◌<◌, ◌≤◌, List, [], ◌∷◌, length, get_or, drop, Result, Ok, Err, refl, sym, ap}
use Rattle.std.proofs.lemmas.List.{at_drop_more, at_drop_all}
use Rattle.vr_json.specs.Reading.{and_then}
use Rattle.vr_tsplib.specs.declared.files.State.{State}
use Rattle.vr_tsplib.specs.Flaws.{at_line}
use Rattle.vr_tsplib.specs.Files.{read_line, read_lines}

-- the next line of those that are left
pub line_opens : (state : State) (number : ℕ) (all : List (List ℕ)) (n : ℕ) (line : List ℕ) → n < length all → line ≡ get_or all n line
    → read_lines state number (drop n all) ≡ and_then (at_line number (read_line state line)) (λ next. read_lines next (number + 1) (drop (n + 1) all))
unfolding read_lines
line_opens state number all n line low is =
    at_drop_more (read_lines state number) all n line low
    ∙ ap (λ here. and_then (at_line number (read_line state here)) (λ next. read_lines next (number + 1) (drop (n + 1) all))) (sym is)

pub no_line_left : (state : State) (number : ℕ) (all : List (List ℕ)) (n : ℕ) → length all ≤ n → read_lines state number (drop n all) ≡ Ok state
unfolding read_lines
no_line_left state number all n high = at_drop_all (read_lines state number) all n high
