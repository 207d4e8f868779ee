-- Ruin: strings are taken out of neighbouring lists. A string is some visits in a row, one of which may stay.
use Rattle.std.specs.Prelude.{◌≡◌, ℕ, suc, ◌+◌, ◌-◌, ◌*◌, ◌/◌, ◌<◌, ◌≤◌, min, max, nat_le, nat_lt, ℤ, pos}
use Rattle.std.specs.Prelude.{Bool, true, false, cond, not, ◌&&◌, ◌==◌, List, [], ◌∷◌, ◌++◌, length, filter, find, fold}
use Rattle.std.specs.Prelude.{slice_index, slice_range, Option, Some, None}
use Rattle.std.specs.List.{list_any, concat}
use Rattle.rand_pcg.specs.Lcg.{Lcg}
use Rattle.vr_gen.specs.Draws.{draw}
use Rattle.vr_model.specs.tables.Numbers.{number_at}
use Rattle.vr_model.specs.tables.Tables.{arc_cost, visits}
use Rattle.vr_model.specs.routes.Routes.{route, holds, vehicles, used_vehicles}
use Rattle.vr_model.specs.routes.Rules.{is_route_open, place_of}
use Rattle.vr_model.specs.moves.Moves.{is_other, with_route}
use Rattle.vr_model.specs.first.Items.{pair_of}
use Rattle.vr_model.specs.declared.records.Model.{Model}
use Rattle.vr_model.specs.declared.records.Pair.{Pair}
use Rattle.vr_strings.specs.Sorting.{sorted_by}
use Rattle.vr_strings.specs.declared.sizes.Ruin.{Ruin}
use Rattle.vr_strings.specs.declared.sizes.StepSize.{StepSize}
use Rattle.vr_strings.specs.declared.drawing.StringSize.{StringSize}
use Rattle.vr_strings.specs.declared.drawing.StringPlaces.{StringPlaces}

-- ---- how much

-- how many visits are active in lists of distinct visits
abbrev pub active_count : List (List ℕ) → ℕ
active_count lists = length (concat lists)

-- how many visits a string of these lists may take out: as many as a used list has on average, rounded down. It is at
-- least 1 and at most `string`
abbrev pub greatest_string : ℕ → List (List ℕ) → ℕ
greatest_string string lists = let used = length (used_vehicles lists) in
    cond (used == 0) 1 (max 1 (min string (active_count lists / used)))

-- four times the visits to be taken out, over one more than the longest string, rounded up
abbrev pub string_share : ℕ → ℕ → ℕ
string_share removed longest = (4 * removed + longest) / (1 + longest)

-- how many strings a step may take out: one less than that, but at least 1
abbrev pub greatest_count : ℕ → ℕ → ℕ
greatest_count removed longest = max 1 (string_share removed longest - 1)

-- how much a step takes out of lists. The visit at which it begins is drawn first, and how many lists are cut then.
-- Between them it has how many visits a string may take out, which is not drawn
abbrev pub step_size : List ℕ → Ruin → List (List ℕ) → Lcg → StepSize × Lcg
step_size visits ruin lists words = let longest = greatest_string ruin.string lists in
    let centre = draw (length visits) words in
    let count = draw (greatest_count ruin.removed longest) centre.1 in
    (record { centre = slice_index visits centre.0; longest = longest; count = 1 + count.0 }, count.1)

-- ---- around a visit

-- a visit, then the others: those to which the arc of vehicle 0 costs least first, then the least number
abbrev pub ring : Model → ℕ → List ℕ
ring model visit = visit ∷
    sorted_by (λ other. arc_cost model 0 visit other ∷ pos other ∷ []) (filter (is_other visit) (visits model))

-- the key of a visit in a ring, by the entries of a matrix. The row of the first visit begins at place `first`
abbrev pub ring_key : List ℤ → ℕ → ℕ → List ℤ
ring_key entries first other = number_at entries (first + other) ∷ pos other ∷ []

-- the vehicle that has a visit in its list
abbrev pub vehicle_of : List (List ℕ) → ℕ → Option ℕ
vehicle_of lists visit = find (λ v. holds (route lists v) visit) (vehicles lists)

-- ---- a string

-- the size of a string that takes this many visits out. If one may stay among them, a coin decides whether it does
abbrev pub size_of : Bool → ℕ → Lcg → StringSize × Lcg
size_of true out words = let coin = draw 2 words in (record { out = out; kept = cond (coin.0 == 0) 1 0 }, coin.1)
size_of false out words = (record { out = out; kept = 0 }, words)

-- the size of a string in a list of n visits. One may stay if it takes out more than one visit, and not all of them
abbrev pub drawn_size : ℕ → ℕ → Lcg → StringSize × Lcg
drawn_size longest n words = let length_draw = draw (min longest n) words in
    let out = 1 + length_draw.0 in
    size_of (nat_lt 1 out && nat_lt out n) out length_draw.1

-- a string of this width contains place p of a list of n visits: its least and its greatest first place
abbrev pub least_first : ℕ → ℕ → ℕ
least_first width p = (p + 1) - width

abbrev pub greatest_first : ℕ → ℕ → ℕ → ℕ
greatest_first width n p = min p (n - width)

-- the first place of such a string
abbrev pub drawn_first : ℕ → ℕ → ℕ → Lcg → ℕ × Lcg
drawn_first width n p words = let lo = least_first width p in
    let shift = draw ((greatest_first width n p - lo) + 1) words in
    (lo + shift.0, shift.1)

-- the place that stays, in a string that begins at place a and takes this many visits out. It is neither the first nor
-- the last of the string
abbrev pub stay_of : Bool → ℕ → ℕ → Lcg → Option ℕ × Lcg
stay_of true out a words = (None, words)
stay_of false out a words = let inside = draw (out - 1) words in (Some ((a + 1) + inside.0), inside.1)

-- the place that stays, if one does
abbrev pub drawn_stay : StringSize → ℕ → Lcg → Option ℕ × Lcg
drawn_stay size a words = stay_of (size.kept == 0) size.out a words

-- a string that contains place p of a list of n visits
abbrev pub drawn_string : ℕ → ℕ → ℕ → Lcg → StringPlaces × Lcg
drawn_string longest n p words = let size = drawn_size longest n words in
    let width = size.0.out + size.0.kept in
    let first = drawn_first width n p size.1 in
    let stay = drawn_stay size.0 first.0 first.1 in
    (record { first = first.0; width = width; stays = stay.0 }, stay.1)

-- a string of this size fits a list of n visits, and one that keeps a visit takes out more than one
pub record IsSizeIn (n : ℕ) (size : StringSize) : Type 0 where
  pub some : 1 ≤ size.out
  pub fits : size.out + size.kept ≤ n
  pub kept : 0 < size.kept → (size.kept ≡ 1) × (1 < size.out)

-- a string lies in a list of n visits, and the place that stays is neither its first nor its last
pub record IsStringIn (n : ℕ) (string : StringPlaces) : Type 0 where
  pub to : string.first + string.width ≤ n
  pub stays : (k : ℕ) → string.stays ≡ Some k → (string.first < k) × (k + 1 < string.first + string.width)

-- a string in a list of n visits that contains place p
pub record IsStringAt (n p : ℕ) (string : StringPlaces) : Type 0 where
  pub within : IsStringIn n string
  pub from : string.first ≤ p
  pub until : p < string.first + string.width

-- the visits of a string that are taken out
abbrev pub string_visits : List ℕ → ℕ → ℕ → Option ℕ → List ℕ
string_visits list a b None = slice_range list a b
string_visits list a b (Some k) = slice_range list a k ++ slice_range list (suc k) b

-- a node, with the other node of its pair if it has one
abbrev pub with_partner : Option Pair → ℕ → List ℕ
with_partner None node = node ∷ []
with_partner (Some pair) node = pair.pickup ∷ pair.delivery ∷ []

-- a node goes with visits that are taken out: it or the other node of its pair is one of them
abbrev pub goes_out : Model → List ℕ → ℕ → Bool
goes_out model gone node = list_any (holds gone) (with_partner (pair_of model node) node)

-- the visits of a list that a string takes out
abbrev pub gone_of : List ℕ → StringPlaces → List ℕ
gone_of list string = string_visits list string.first (string.first + string.width) string.stays

-- a place is not the one that stays
abbrev pub is_not_kept : Option ℕ → ℕ → Bool
is_not_kept None place = true
is_not_kept (Some k) place = not (place == k)

-- a string takes the visit at a place out
abbrev pub takes_place : StringPlaces → ℕ → Bool
takes_place string place =
    (nat_le string.first place && nat_lt place (string.first + string.width)) && is_not_kept string.stays place

-- what is left of a list: the visits of the string go, each with the other node of its pair
abbrev pub left_of_list : Model → List ℕ → StringPlaces → List ℕ
left_of_list model list string = filter (λ node. not (goes_out model (gone_of list string) node)) list

-- the list of vehicle v after its string: what is left if that is open, else the whole list
abbrev pub list_after_string : Model → ℕ → List ℕ → StringPlaces → List ℕ
list_after_string model v list string = let left = left_of_list model list string in
    cond (is_route_open model v left) left list

-- ---- all strings of a step

-- the state of a ruin: the lists, the vehicles whose lists were cut in this step, and the generator of words
pub record Ruined : Type 0 where
  pub lists : List (List ℕ)
  pub cut : List ℕ
  pub words : Lcg

-- the list of vehicle v is cut at this visit; it counts as cut also if it stays whole
abbrev pub cut_in : Model → ℕ → ℕ → ℕ → Ruined → Ruined
cut_in model longest visit v state = let list = route state.lists v in
    let string = drawn_string longest (length list) (place_of list visit) state.words in
    record {
      lists = with_route state.lists v (list_after_string model v list string.0);
      cut = v ∷ state.cut;
      words = string.1;
    }

-- a visit is passed over if it is in no list, or in a list that was cut in this step
abbrev pub cut_unless_passed : Model → ℕ → ℕ → Ruined → Option ℕ → Ruined
cut_unless_passed model longest visit state None = state
cut_unless_passed model longest visit state (Some v) = elim (holds state.cut v) [
  | true ↦ state
  | false ↦ cut_in model longest visit v state
]

-- a visit in its turn: once this many lists were cut, nothing is done
abbrev pub cut_at_visit : Model → ℕ → ℕ → Ruined → ℕ → Ruined
cut_at_visit model longest count state visit = elim (length state.cut == count) [
  | true ↦ state
  | false ↦ cut_unless_passed model longest visit state (vehicle_of state.lists visit)
]

-- the ruin of lists of a model with visits. First it is drawn how much is taken out. Then the visits are gone through,
-- from the drawn one on
unfoldable pub ruined : Model → Ruin → List (List ℕ) → Lcg → Ruined
ruined model ruin lists words = let size = step_size (visits model) ruin lists words in
    fold (cut_at_visit model size.0.longest size.0.count) (record { lists = lists; cut = []; words = size.1 })
    (ring model size.0.centre)
