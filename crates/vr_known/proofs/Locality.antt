-- Whether a move leaves valid lists depends on the lists of its vehicles and on the active visits alone.
use Rattle.std.proofs.Common.{◌≡◌, ◌∙◌, ℕ, zero, suc, ◌+◌, ◌<◌, Bool, true, List, length, refl, sym, ap, ap₂, inl, inr, arith}
use Rattle.std.specs.Prelude.{IsTrue, ◌&&◌, ◌||◌, nat_le, count_by}
use Rattle.std.specs.List.{list_all, range_with_len}
use Rattle.vr_model.specs.deciding.Testing.{and_left, and_right, list_all_range}
use Rattle.vr_model.specs.tables.Numbers.{below}
use Rattle.vr_model.specs.tables.Tables.{visits}
use Rattle.vr_model.specs.routes.Routes.{route, are_lists, is_active}
use Rattle.vr_model.specs.routes.Rules.{is_route_open, is_open, is_valid, is_grouped, has_enough}
use Rattle.vr_model.specs.moves.Moves.{apply}
use Rattle.vr_model.specs.moves.MoveTests.{is_move}
use Rattle.vr_model.specs.declared.records.Model.{Model}
use Rattle.vr_model.specs.declared.neighbours.Move.{Move}
use Rattle.vr_model.proofs.routes.Lists.{are-lists}
use Rattle.vr_model.proofs.moves.KeptLists.{as_many, moves_keep_lists}
use Rattle.vr_routes.specs.Tours.{are_routes_open}
use Rattle.vr_known.specs.Locality.{Alike, ValidityIsLocal, MovesAreLocal}
use Rattle.vr_known.proofs.Local.{ComesToSame, IsLocal, is_local, moves_local}

all_same : (p q : ℕ → Bool) (a n : ℕ) → ((k : ℕ) → k < a + n → p k ≡ q k) → list_all p (range_with_len a n) ≡ list_all q (range_with_len a n)
all_same p q a zero same = refl
all_same p q a (suc n) same = ap₂ (λ b c. b && c) (same a (omega arith)) (all_same p q (a + 1) n (λ k low. same k (omega (arith, low))))

module _ (model : Model) where
  -- the rules of valid lists that ask which visits are active alone
  abbrev fit : (ℕ → Bool) → Bool
  fit active = list_all (λ group. nat_le (count_by active group.nodes) group.max) model.groups

  abbrev required : (ℕ → Bool) → Bool
  required active = list_all (λ node. is_grouped model node || active node) (visits model)

  abbrev enough : (ℕ → Bool) → Bool
  enough active = list_all (λ group. has_enough group.penalty group.max (count_by active group.nodes)) model.groups

  abbrev together : Bool → Bool → Bool → Bool → Bool → Bool
  together lists open_ fits needed full = lists && ((open_ && fits) && (needed && full))

  valid_is : (lists : List (List ℕ)) → is_valid model lists
      ≡ together (are_lists model lists) (are_routes_open model lists) (fit (is_active lists)) (required (is_active lists)) (enough (is_active lists))
  unfolding is_valid is_open
  valid_is lists = refl

  record Keeps (lists : List (List ℕ)) : Type 0 where
    open_routes : IsTrue (are_routes_open model lists)
    fits : fit (is_active lists) ≡ true
    needed : required (is_active lists) ≡ true
    full : enough (is_active lists) ≡ true

  keeps : (lists : List (List ℕ)) → IsTrue (is_valid model lists) → Keeps lists
  keeps lists valid =
      let all : IsTrue
      (together (are_lists model lists) (are_routes_open model lists) (fit (is_active lists)) (required (is_active lists)) (enough (is_active lists))) =
      sym (valid_is lists) ∙ valid in
      let rest = and_right (are_lists model lists) _ all in
      let first = and_left (are_routes_open model lists && fit (is_active lists)) _ rest in
      let second = and_right (are_routes_open model lists && fit (is_active lists)) _ rest in
      record {
        open_routes = and_left (are_routes_open model lists) _ first;
        fits = and_right (are_routes_open model lists) _ first;
        needed = and_left (required (is_active lists)) _ second;
        full = and_right (required (is_active lists)) _ second;
      }

  open_at : (lists : List (List ℕ)) → IsTrue (is_valid model lists) → (v : ℕ) → v < length lists → is_route_open model v (route lists v) ≡ true
  open_at lists valid v low =
      list_all_range (λ v. is_route_open model v (route lists v)) 0 (length lists) (keeps lists valid).open_routes v (omega arith) (omega (arith, low))

-- a test of what comes to the same, or passed and stays, says the same
rule_local : {A : Type 0} (p : A → Bool) (before other after later : A) → p before ≡ true
    → p other ≡ true → ComesToSame before other after later → p after ≡ p later
rule_local p before other after later passes passes_too (inl same) = ap p same.1
rule_local p before other after later passes passes_too (inr stay) = ap p stay.0 ∙ passes ∙ sym passes_too ∙ ap p (sym stay.1)

module _ (model : Model) (lists other : List (List ℕ)) (mv : Move) (both : Alike model mv lists other) where
  abbrev after : List (List ℕ)
  after = apply model lists mv

  abbrev later : List (List ℕ)
  later = apply model other mv

  local : IsLocal model mv lists other
  local = is_local model lists other mv both

  opened : (u : ℕ) → u < length lists → is_route_open model u (route after u) ≡ is_route_open model u (route later u)
  opened u low = rule_local (is_route_open model u) (route lists u) (route other u) (route after u) (route later u)
      (open_at model lists both.valid u low) (open_at model other both.other_valid u (let many = local.many in omega (arith, low, many))) (local.each u)

  opens_local : are_routes_open model after ≡ are_routes_open model later
  opens_local =
      ap (λ n. list_all (λ u. is_route_open model u (route after u)) (below n)) (as_many model lists mv)
      ∙ all_same (λ u. is_route_open model u (route after u)) (λ u. is_route_open model u (route later u))
      0 (length lists) (λ u low. opened u (omega (arith, low)))
      ∙ ap (λ n. list_all (λ u. is_route_open model u (route later u)) (below n)) (local.many ∙ sym (as_many model other mv))

  -- a rule that asks which visits are active
  by_activity : (p : (ℕ → Bool) → Bool) → p (is_active lists) ≡ true → p (is_active other) ≡ true → p (is_active after) ≡ p (is_active later)
  by_activity p passes passes_too = rule_local p (is_active lists) (is_active other) (is_active after) (is_active later) passes passes_too local.active

pub validity_is_local : ValidityIsLocal
validity_is_local model well lists other mv both =
    let h_other : IsTrue (is_move model other mv) = moves_local model lists other mv both.is_one both.agree ∙ both.is_one in
    let now : List (List ℕ) = apply model lists mv in
    let then : List (List ℕ) = apply model other mv in
    let here = keeps model lists both.valid in
    let there = keeps model other both.other_valid in
    let are : are_lists model now ≡ are_lists model then = moves_keep_lists model well lists mv (are-lists model lists both.valid) both.is_one
    ∙ sym (moves_keep_lists model well other mv (are-lists model other both.other_valid) h_other) in
    valid_is model now
    ∙ ap (λ b. together model b (are_routes_open model now) (fit model (is_active now)) (required model (is_active now)) (enough model (is_active now))) are
    ∙ ap (λ b. together model (are_lists model then) b (fit model (is_active now)) (required model (is_active now)) (enough model (is_active now)))
    (opens_local model lists other mv both)
    ∙ ap (λ b. together model (are_lists model then) (are_routes_open model then) b (required model (is_active now)) (enough model (is_active now)))
    (by_activity model lists other mv both (fit model) here.fits there.fits)
    ∙ ap (λ b. together model (are_lists model then) (are_routes_open model then) (fit model (is_active then)) b (enough model (is_active now)))
    (by_activity model lists other mv both (required model) here.needed there.needed)
    ∙ ap (λ b. together model (are_lists model then) (are_routes_open model then) (fit model (is_active then)) (required model (is_active then)) b)
    (by_activity model lists other mv both (enough model) here.full there.full)
    ∙ sym (valid_is model then)

pub moves_are_local : MovesAreLocal
moves_are_local model lists other mv h agree = moves_local model lists other mv h agree
