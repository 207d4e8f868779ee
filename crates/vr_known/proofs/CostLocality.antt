-- What a move makes of the cost depends on the lists of its vehicles and on the active visits alone.
use Rattle.std.proofs.Common.{◌≡◌, ◌∙◌, ℕ, suc, ◌<◌, Bool, cond, List, [], length, sym, ap, inl, inr, arith}
use Rattle.std.specs.Prelude.{ℤ, pos, ◌-ℤ◌, ◌*ℤ◌, slice_index_or, count_by}
use Rattle.std.specs.List.{zip}
use Rattle.std.proofs.lemmas.Int.{ints}
use Rattle.std.proofs.lemmas.List.FromFn.{get_or-map-range_with_len}
use Rattle.vr_model.specs.tables.Numbers.{total_by, below, number_at}
use Rattle.vr_model.specs.tables.Tables.{vehicle_at, dimension_at}
use Rattle.vr_model.specs.routes.Routes.{route, is_active, is_empty, route_cost}
use Rattle.vr_model.specs.schedules.Lines.{stop_rows}
use Rattle.vr_model.specs.schedules.Schedules.{Plan, cumul}
use Rattle.vr_model.specs.routes.Costs.{no_plan, fixed_part, global_part, global_span, penalty_for, soft_part, span_part, row_cost, chosen_plans, assigned}
use Rattle.vr_model.specs.routes.Costs.{parts_at, sum_of, cost, over_plans}
use Rattle.vr_model.specs.moves.Moves.{apply}
use Rattle.vr_model.specs.declared.records.Model.{Model}
use Rattle.vr_model.specs.declared.records.Parts.{Parts}
use Rattle.vr_model.specs.declared.neighbours.Move.{Move}
use Rattle.vr_model.proofs.tables.Totals.{sum_same, sum_nothing, total_by-failing, total_by-less, total_by-same}
use Rattle.vr_model.proofs.moves.KeptLists.{as_many}
use Rattle.vr_known.specs.Locality.{HasNoGlobalSpans, CostIsLocal}
use Rattle.vr_known.proofs.Local.{ComesToSame, IsLocal, is_local}

-- a sum over the lists of vehicles
abbrev pub over : (ℕ → List ℕ → ℤ) → List (List ℕ) → ℤ
over f lists = total_by (λ v. f v (route lists v)) (below (length lists))

nothing_less : (x y : ℤ) → x -ℤ x ≡ y -ℤ y
nothing_less x y = omega (arith, ints)

-- what is made of something differs by the same where it comes to the same
pub one_local : {A : Type 0} (f : A → ℤ) (before other after later : A) → ComesToSame before other after later → f after -ℤ f before ≡ f later -ℤ f other
one_local f before other after later (inl same) = ap (λ x. f x -ℤ f before) same.1 ∙ ap (λ x. f later -ℤ f x) same.0
one_local f before other after later (inr stay) = ap (λ x. f x -ℤ f before) stay.0 ∙ nothing_less (f before) (f other) ∙ ap (λ x. f x -ℤ f other) (sym stay.1)

-- what the move adds to a sum over the lists is the same
module _ (model : Model) (mv : Move) (lists other : List (List ℕ)) (local : IsLocal model mv lists other) (f : ℕ → List ℕ → ℤ) where
  pub sum_local : over f (apply model lists mv) -ℤ over f lists ≡ over f (apply model other mv) -ℤ over f other
  sum_local =
      ap (λ n. total_by (λ v. f v (route (apply model lists mv) v)) (below n) -ℤ over f lists) (as_many model lists mv)
      ∙ sym (total_by-less (λ v. f v (route (apply model lists mv) v)) (λ v. f v (route lists v)) (below (length lists)))
      ∙ total_by-same (λ u. f u (route (apply model lists mv) u) -ℤ f u (route lists u)) (λ u. f u (route (apply model other mv) u) -ℤ f u (route other u))
      (λ u. one_local (f u) (route lists u) (route other u) (route (apply model lists mv) u) (route (apply model other mv) u) (local.each u))
      (below (length lists))
      ∙ total_by-less (λ v. f v (route (apply model other mv) v)) (λ v. f v (route other v)) (below (length lists))
      ∙ ap (λ n. total_by (λ v. f v (route (apply model other mv) v)) (below n) -ℤ total_by (λ v. f v (route other v)) (below n)) local.many
      ∙ ap (λ n. total_by (λ v. f v (route (apply model other mv) v)) (below n) -ℤ over f other) (sym (as_many model other mv))

-- ---- the parts as sums over the lists

module _ (model : Model) where
  -- what a used vehicle costs
  abbrev where_used : List ℕ → ℤ → ℤ
  where_used list x = cond (is_empty list) (pos 0) x

  abbrev fixed_in : ℕ → List ℕ → ℤ
  fixed_in v list = where_used list (vehicle_at model v).fixed

  fixed_over : (lists : List (List ℕ)) → fixed_part model lists ≡ over fixed_in lists
  fixed_over lists = total_by-failing (λ v. (vehicle_at model v).fixed) (λ v. is_empty (route lists v)) (below (length lists))

  -- what one plan of a list costs by soft bounds, and by its span
  abbrev soft_by : List Plan → ℕ → List ℕ → ℕ → ℤ
  soft_by plans v list d = total_by (λ stop. row_cost stop.0 stop.1) (zip (stop_rows (dimension_at model d) v list) (slice_index_or plans d no_plan).cumuls)

  abbrev span_by : List Plan → ℕ → List ℕ → ℕ → ℤ
  span_by plans v list d = number_at (dimension_at model d).span_costs v
      *ℤ (cumul (slice_index_or plans d no_plan) (suc (length list)) -ℤ cumul (slice_index_or plans d no_plan) 0)

  abbrev in_all : (List Plan → ℕ → List ℕ → ℕ → ℤ) → List Plan → ℕ → List ℕ → ℤ
  in_all by plans v list = total_by (by plans v list) (below (length model.dimensions))

  abbrev planned : (List Plan → ℕ → List ℕ → ℕ → ℤ) → ℕ → List ℕ → ℤ
  planned by v list = where_used list (in_all by (chosen_plans model v list) v list)

  module _ (lists : List (List ℕ)) where
    plans_of : (v : ℕ) → v < length lists → slice_index_or (assigned model lists).plans v [] ≡ chosen_plans model v (route lists v)
    plans_of v low = get_or-map-range_with_len (λ v. chosen_plans model v (route lists v)) 0 (length lists) v v [] low (omega arith)

    planned_over : (by : List Plan → ℕ → List ℕ → ℕ → ℤ)
        → over_plans model (assigned model lists) (λ d v. by (slice_index_or (assigned model lists).plans v []) v (route lists v) d) ≡ over (planned by) lists
    planned_over by =
        total_by-failing (λ v. in_all by (slice_index_or (assigned model lists).plans v []) v (route lists v))
        (λ v. is_empty (route lists v)) (below (length lists))
        ∙ sum_same (λ v. where_used (route lists v) (in_all by (slice_index_or (assigned model lists).plans v []) v (route lists v)))
        (λ v. planned by v (route lists v)) 0 (length lists)
        (λ v low known. ap (λ plans. where_used (route lists v) (in_all by plans v (route lists v))) (plans_of v (omega (arith, known))))

    soft_over : soft_part model (assigned model lists) ≡ over (planned soft_by) lists
    soft_over = planned_over soft_by

    span_over : span_part model (assigned model lists) ≡ over (planned span_by) lists
    span_over = planned_over span_by

  times_nothing : (x y : ℤ) → x ≡ pos 0 → x *ℤ y ≡ pos 0
  times_nothing x y e = ap (λ z. z *ℤ y) e ∙ none y
    where
      none : (y : ℤ) → pos 0 *ℤ y ≡ pos 0
      none y = omega (arith, ints)

  no_global : HasNoGlobalSpans model → (lists : List (List ℕ)) → global_part model (assigned model lists) ≡ pos 0
  no_global none lists = sum_nothing (λ d. (dimension_at model d).global_span_cost *ℤ global_span (assigned model lists) d) 0 (length model.dimensions)
      (λ d low high. times_nothing _ (global_span (assigned model lists) d) (none d (omega (arith, high))))

  -- penalties, by which visits are active
  abbrev penalties : (ℕ → Bool) → ℤ
  penalties active = total_by (λ group. penalty_for group.penalty group.max (count_by active group.nodes)) model.groups

-- ---- the cost

-- the sums of parts differ as their parts do
sums_differ : (a b c d : Parts) → a.arcs -ℤ b.arcs ≡ c.arcs -ℤ d.arcs → a.fixed -ℤ b.fixed ≡ c.fixed -ℤ d.fixed → a.global -ℤ b.global ≡ c.global -ℤ d.global
    → a.penalty -ℤ b.penalty ≡ c.penalty -ℤ d.penalty → a.soft -ℤ b.soft ≡ c.soft -ℤ d.soft → a.span -ℤ b.span ≡ c.span -ℤ d.span
    → sum_of a -ℤ sum_of b ≡ sum_of c -ℤ sum_of d
sums_differ a b c d arcs fixed spans penalty soft span = omega (arith, ints, arcs, fixed, spans, penalty, soft, span)

-- what is nothing more in both differs by the same
none_differ : (a b c d : ℤ) → a ≡ b → c ≡ d → a -ℤ b ≡ c -ℤ d
none_differ a b c d e f = omega (arith, ints, e, f)

four : (f : List (List ℕ) → ℤ) (g : List (List ℕ) → ℤ) (a b c d : List (List ℕ))
    → ((l : List (List ℕ)) → f l ≡ g l) → g a -ℤ g b ≡ g c -ℤ g d → f a -ℤ f b ≡ f c -ℤ f d
four f g a b c d same e = let p = same a in let q = same b in let r = same c in let s = same d in omega (arith, ints, p, q, r, s, e)

pub cost_is_local : CostIsLocal
unfolding cost
cost_is_local model none lists other mv both =
    let local = is_local model lists other mv both in
    let after : List (List ℕ) = apply model lists mv in
    let later : List (List ℕ) = apply model other mv in
    sums_differ (parts_at model (assigned model after)) (parts_at model (assigned model lists))
    (parts_at model (assigned model later)) (parts_at model (assigned model other))
    (sum_local model mv lists other local (route_cost model))
    (four (fixed_part model) (over (fixed_in model)) after lists later other (fixed_over model) (sum_local model mv lists other local (fixed_in model)))
    (none_differ _ _ _ _ (no_global model none after ∙ sym (no_global model none lists)) (no_global model none later ∙ sym (no_global model none other)))
    (one_local (penalties model) (is_active lists) (is_active other) (is_active after) (is_active later) local.active)
    (four (λ l. soft_part model (assigned model l)) (over (planned model (soft_by model))) after lists
    later other (soft_over model) (sum_local model mv lists other local (planned model (soft_by model))))
    (four (λ l. span_part model (assigned model l)) (over (planned model (span_by model))) after lists
    later other (span_over model) (sum_local model mv lists other local (planned model (span_by model))))
