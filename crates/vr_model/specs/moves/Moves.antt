-- Moves from lists to neighbouring lists: what the lists are after one, and the list of all moves of given lists.
use Rattle.std.specs.Prelude.{ℕ, suc, ◌+◌, ◌-◌, Bool, false, cond, not, ◌&&◌, ◌||◌, ◌==◌, nat_le, List, [], ◌∷◌, ◌++◌}
use Rattle.std.specs.Prelude.{map, reverse, length, take, drop, filter, insert, remove, slice_index, slice_range}
use Rattle.std.specs.Prelude.{slice_set}
use Rattle.std.specs.List.{list_any}
use Rattle.vr_model.specs.tables.Numbers.{below, from_to, each}
use Rattle.vr_model.specs.tables.Tables.{pair_at}
use Rattle.vr_model.specs.routes.Routes.{route, holds, is_same, vehicles, is_active, inactive}
use Rattle.vr_model.specs.declared.records.Model.{Model}
use Rattle.vr_model.specs.declared.records.Pair.{Pair}
use Rattle.vr_model.specs.declared.neighbours.Move.{Move}
use Rattle.vr_model.specs.declared.neighbours.Move.TheVariants.{TwoOpt, OrOpt, Relocate, Exchange, Cross, RelocatePair}
use Rattle.vr_model.specs.declared.neighbours.Move.TheVariants.{PairActive, PairInactive, MakeActive, MakeInactive}
use Rattle.vr_model.specs.declared.neighbours.Move.TheVariants.{SwapActive}
use Rattle.vr_model.specs.declared.neighbours.Neighbourhood.{Neighbourhood}
use Rattle.vr_model.specs.declared.neighbours.Neighbourhood.TheVariants as all

-- the node at a place of a list
abbrev pub node_at : List ℕ → ℕ → ℕ
node_at list k = slice_index list k

-- the lists with another list for vehicle v
abbrev pub with_route : List (List ℕ) → ℕ → List ℕ → List (List ℕ)
with_route lists v list = slice_set lists v list

-- The list with its places from a up to but not including b in reverse order. Of `5 6 7 8` with a = 1 and b = 3 it is
-- `5 7 6 8`.
abbrev pub reversed_between : List ℕ → ℕ → ℕ → List ℕ
reversed_between list a b = take a list ++ (reverse (slice_range list a b) ++ drop b list)

-- The k nodes from place a on are taken out together, and put before place t of the rest. Of `5 6 7 8` with a = 1, k =
-- 2 and t = 0 it is `6 7 5 8`.
abbrev pub chain_moved : List ℕ → ℕ → ℕ → ℕ → List ℕ
chain_moved list a k t =
    let rest = take a list ++ drop (a + k) list in take t rest ++ (slice_range list a (a + k) ++ drop t rest)

-- the list without the nodes of a pair
abbrev pub without_pair : Pair → List ℕ → List ℕ
without_pair pair list = filter (λ node. not ((node == pair.pickup) || (node == pair.delivery))) list

-- The pickup of a pair is put before place s of the list, and its delivery before place t, with s <= t. If s is t, the
-- delivery comes right after the pickup.
abbrev pub with_pair : Pair → ℕ → ℕ → List ℕ → List ℕ
with_pair pair s t list = take s list ++ (pair.pickup ∷ (slice_range list s t ++ (pair.delivery ∷ drop t list)))

-- the lists after a move
abbrev pub apply : Model → List (List ℕ) → Move → List (List ℕ)
apply model lists (TwoOpt v a b) = with_route lists v (reversed_between (route lists v) a (suc b))
apply model lists (OrOpt v a k t) = with_route lists v (chain_moved (route lists v) a k t)
apply model lists (Relocate v a w t) =
    with_route (with_route lists v (remove (route lists v) a)) w (insert (route lists w) t (node_at (route lists v) a))
apply model lists (Exchange v a w b) =
    let first = with_route lists v (slice_set (route lists v) a (node_at (route lists w) b)) in
    with_route first w (slice_set (route first w) b (node_at (route lists v) a))
apply model lists (Cross v a w b) =
    with_route (with_route lists v (take b (route lists w) ++ drop a (route lists v))) w (take a (route lists v)
    ++ drop b (route lists w))
apply model lists (RelocatePair p w s t) =
    let rest = map (without_pair (pair_at model p)) lists in
    with_route rest w (with_pair (pair_at model p) s t (route rest w))
apply model lists (PairActive p w s t) = with_route lists w (with_pair (pair_at model p) s t (route lists w))
apply model lists (PairInactive p) = map (without_pair (pair_at model p)) lists
apply model lists (MakeActive u w t) = with_route lists w (insert (route lists w) t u)
apply model lists (MakeInactive v a) = with_route lists v (remove (route lists v) a)
apply model lists (SwapActive v a u) = with_route lists v (slice_set (route lists v) a u)

-- x is in the list, and y after it
abbrev pub comes_before : List ℕ → ℕ → ℕ → Bool
comes_before [] x y = false
comes_before (z ∷ zs) x y = cond (z == x) (holds zs y) (comes_before zs x y)

-- both nodes of pair p are in one list, and the pickup comes first
abbrev pub is_pair_served : Model → List (List ℕ) → ℕ → Bool
is_pair_served model lists p =
    list_any (λ list. comes_before list (pair_at model p).pickup (pair_at model p).delivery) lists

-- both nodes of pair p are in one list
abbrev pub is_pair_together : Model → List (List ℕ) → ℕ → Bool
is_pair_together model lists p =
    list_any (λ list. holds list (pair_at model p).pickup && holds list (pair_at model p).delivery) lists

-- neither node of pair p is active
abbrev pub is_pair_inactive : Model → List (List ℕ) → ℕ → Bool
is_pair_inactive model lists p =
    not (is_active lists (pair_at model p).pickup) && not (is_active lists (pair_at model p).delivery)

-- the places of a list
abbrev pub places : List ℕ → List ℕ
places list = below (length list)

-- the places before which a node can be put, the end of the list included
abbrev pub gaps : List ℕ → List ℕ
gaps list = below (suc (length list))

-- the numbers of the pairs
abbrev pub pairs : Model → List ℕ
pairs model = below (length model.pairs)

-- the list has k nodes from place a on
abbrev pub has_chain : List ℕ → ℕ → ℕ → Bool
has_chain list a k = nat_le (a + k) (length list)

-- two numbers are not the same
abbrev pub is_other : ℕ → ℕ → Bool
is_other x y = not (x == y)

-- Some visit comes before place a of one list or before place b of another. A cross of two empty fronts changes
-- nothing.
abbrev pub has_some_front : ℕ → ℕ → Bool
has_some_front a b = not ((a == 0) && (b == 0))

-- the places in list w with which an exchange may change place a of list v: in the same list only those after a
abbrev pub places_behind : List (List ℕ) → ℕ → ℕ → ℕ → List ℕ
places_behind lists v a w = from_to (cond (v == w) (suc a) 0) (length (route lists w))

-- the places before which the delivery of a pair can be put, if its pickup is put before place s
abbrev pub gaps_from : List ℕ → ℕ → List ℕ
gaps_from list s = from_to s (suc (length list))

-- putting the pair there changes the list
abbrev pub changes_the_list : Pair → List ℕ → List ℕ → ℕ → ℕ → Bool
changes_the_list pair list rest s t = not (is_same (with_pair pair s t rest) list)

-- the moves of one neighbourhood, in lexicographic order of their numbers
abbrev pub moves_in : Model → List (List ℕ) → Neighbourhood → List Move
moves_in model lists all.TwoOpt =
    each (vehicles lists) λ v. each (places (route lists v)) λ a.
    map (TwoOpt v a) (from_to (suc a) (length (route lists v)))
moves_in model lists all.OrOpt =
    each (vehicles lists) λ v. each (places (route lists v)) λ a.
    each (filter (has_chain (route lists v) a) (from_to 1 4)) λ k.
    map (OrOpt v a k) (filter (is_other a) (below (suc (length (route lists v) - k))))
moves_in model lists all.Relocate =
    each (vehicles lists) λ v. each (places (route lists v)) λ a.
    each (filter (is_other v) (vehicles lists)) λ w. map (Relocate v a w) (gaps (route lists w))
moves_in model lists all.Exchange =
    each (vehicles lists) λ v. each (places (route lists v)) λ a.
    each (from_to v (length lists)) λ w. map (Exchange v a w) (places_behind lists v a w)
moves_in model lists all.Cross =
    each (vehicles lists) λ v. each (gaps (route lists v)) λ a.
    each (from_to (suc v) (length lists)) λ w. map (Cross v a w) (filter (has_some_front a) (gaps (route lists w)))
moves_in model lists all.RelocatePair =
    each (filter (is_pair_served model lists) (pairs model)) λ p.
    each (vehicles lists) λ w. let rest = without_pair (pair_at model p) (route lists w) in
    each (gaps rest) λ s. map (RelocatePair p w s)
    (filter (changes_the_list (pair_at model p) (route lists w) rest s) (gaps_from rest s))
moves_in model lists all.PairActive =
    each (filter (is_pair_inactive model lists) (pairs model)) λ p.
    each (vehicles lists) λ w. each (gaps (route lists w)) λ s. map (PairActive p w s) (gaps_from (route lists w) s)
moves_in model lists all.PairInactive = map PairInactive (filter (is_pair_together model lists) (pairs model))
moves_in model lists all.MakeActive =
    each (inactive model lists) λ u. each (vehicles lists) λ w. map (MakeActive u w) (gaps (route lists w))
moves_in model lists all.MakeInactive = each (vehicles lists) λ v. map (MakeInactive v) (places (route lists v))
moves_in model lists all.SwapActive =
    each (vehicles lists) λ v. each (places (route lists v)) λ a. map (SwapActive v a) (inactive model lists)

-- All neighbourhoods, in the order of a model that leaves their field out. An empty field has none.
abbrev pub all_neighbourhoods : List Neighbourhood
all_neighbourhoods =
    all.TwoOpt ∷ all.OrOpt ∷ all.Relocate ∷ all.Exchange ∷ all.Cross ∷ all.RelocatePair ∷ all.PairActive
    ∷ all.PairInactive ∷ all.MakeActive ∷ all.MakeInactive ∷ all.SwapActive ∷ []

-- the moves of given neighbourhoods, joined in the order in which they are given
unfoldable pub moves_over : Model → List Neighbourhood → List (List ℕ) → List Move
moves_over model neighbourhoods lists = each neighbourhoods (moves_in model lists)

-- the moves of the neighbourhoods of the model
abbrev pub moves : Model → List (List ℕ) → List Move
moves model lists = moves_over model model.search.neighbourhoods lists
