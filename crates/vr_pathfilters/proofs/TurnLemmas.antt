-- What is counted of lists, and what it tells of pairs.
use Rattle.std.proofs.Common.{◌≡◌, ◌≢◌, ◌∙◌, inl, inr, ℕ, ◌+◌, ◌<◌, ◌≤◌, ◌++◌, List, true, false, length, take, drop, refl, sym, ap, ap₂, subst, arith}
use Rattle.std.specs.Prelude.{All, IsTrue, ◌&&◌, slice_index}
use Rattle.std.specs.List.{list_all}
use Rattle.std.proofs.lemmas.Bool.{cases_lt}
use Rattle.std.proofs.lemmas.Bool.Decides.{eqb_tells}
use Rattle.vr_model.specs.declared.records.Model.{Model}
use Rattle.vr_model.specs.declared.records.Policy.{Policy}
use Rattle.vr_model.specs.declared.records.Policy.TheVariants.{Any, Lifo, Fifo}
use Rattle.vr_model.specs.routes.Routes.{holds, is_distinct, route}
use Rattle.vr_model.specs.routes.Rules.{keeps_policy, serves_pair}
use Rattle.vr_model.specs.tables.Tables.{vehicle_at}
use Rattle.vr_model.specs.tables.WellFormed.{IsWellFormed}
use Rattle.vr_model.proofs.routes.Lists.{is_distinct-left, is_distinct-right, place_of_held}
use Rattle.vr_model.proofs.tables.Tests.{clash, fails}
use Rattle.vr_lists.specs.Pairs.{keeps_pairs}
use Rattle.vr_lists.proofs.PlaceLemmas.{keeps-any}
use Rattle.vr_lists.proofs.VisitLists.{visits-below}
use Rattle.vr_routes.specs.Changes.{AreParts}
use Rattle.vr_routes.specs.Pieces.{ListAfter, changed, joined, no_part, part_at}
use Rattle.vr_routes.specs.Seats.{IsOnce}
use Rattle.vr_routes.proofs.CommitLemmas.{as_many_lists}
use Rattle.vr_routes.proofs.PartLemmas.{part_is, part_or_before}
use Rattle.vr_reach.specs.Lists.{IsTour}
use Rattle.vr_reach.specs.Spliced.{AreSeams, spliced}
use Rattle.vr_pathfilters.specs.declared.policies.counts.Counts.{Counts}
use Rattle.vr_pathfilters.specs.Counted.{AreCounted, asks_turns, count_of}
use Rattle.vr_pathfilters.specs.Replaced.{Serves, takes_turns_between}
use Rattle.vr_pathfilters.proofs.Replacing.{turns_are_between}
use Rattle.vr_pathfilters.proofs.Turning.{turns_are_policies}
use Rattle.vr_pathfilters.specs.Pairs.{AreAllCounted, IsListCounted, asks_turns_of}

-- ---- lists

-- the nodes of a tour are few
pub tour_nodes : {model : Model} {list : List ℕ} → IsWellFormed model → IsTour model list → All (λ node. node < 1000) list
tour_nodes {model} {list} well_formed tour = λ i d inside.
    let h = visits-below model list tour.visits i d inside in
    let number = well_formed.number_of_nodes.1 in
    omega (arith, h, number)

-- no node between the ends of a list of distinct nodes stands twice
pub distinct_between : (old middle : List ℕ) (front behind : ℕ) → IsTrue (is_distinct (spliced old front behind middle)) → IsTrue (is_distinct middle)
distinct_between old middle front behind distinct =
    is_distinct-left middle (drop behind old) (is_distinct-right (take front old) (middle ++ drop behind old) distinct)

-- ---- what is counted

-- a list stays counted where what is kept of its nodes stays
pub counted_kept : (model : Model) (list : List ℕ) (before after : List Counts)
    → ((k : ℕ) → k < length list → count_of after (slice_index list k) ≡ count_of before (slice_index list k))
    → AreCounted model list before → AreCounted model list after
counted_kept model list before after same is = record { up_to = λ k low. same k low ∙ is.up_to k low }

-- a node of one list stands in no other one
pub stands_apart : (lists : List (List ℕ)) → IsOnce lists → (v w : ℕ) → v < length lists → w < length lists
    → v ≢ w → (k : ℕ) → k < length (route lists v) → holds (route lists w) (slice_index (route lists v) k) ≡ false
stands_apart lists once v w low low_too apart k within = fails (holds (route lists w) node) (λ h.
    let p = place_of_held (route lists w) node h in
    apart (once node v k w p.0 (record { vehicle = low; place = within; found = refl }) (record { vehicle = low_too; place = p.1; found = p.2 })).0)
  where
    node : ℕ
    node = slice_index (route lists v) k

module _ (model : Model) (lists : List (List ℕ)) (once : IsOnce lists) (v : ℕ) (low : v < length lists) (before after : List Counts)
    (others : (node : ℕ) → holds (route lists v) node ≡ false → count_of after node ≡ count_of before node) where
  -- a list stays counted where that of another vehicle is
  pub stays_counted : (w : ℕ) → w < length lists → w ≢ v → AreCounted model (route lists w) before → AreCounted model (route lists w) after
  stays_counted w low_too apart = counted_kept model (route lists w) before after
      (λ k within. others (slice_index (route lists w) k) (stands_apart lists once w v low_too low apart k within))

module _ (model : Model) (lists : List (List ℕ)) (once : IsOnce lists) where
  -- one list more is counted
  pub counted_list : (v : ℕ) → v < length lists → (before after : List Counts)
      → ((w : ℕ) → w < v → IsTrue (asks_turns_of model w) → AreCounted model (route lists w) before)
      → IsListCounted model v (route lists v) before after → (w : ℕ) → w < v + 1 → IsTrue (asks_turns_of model w) → AreCounted model (route lists w) after
  counted_list v low before after so_far is w within asks = elim (cases_lt w v) [
    | inl earlier ↦ stays_counted model lists once v low before after is.others w
        (omega (arith, earlier, low)) (λ same. omega (arith, earlier, same)) (so_far w earlier asks)
    | inr not_earlier ↦ (let same : v ≡ w = omega (arith, within, not_earlier) in
        subst (λ u. AreCounted model (route lists u) after) same (is.counted (subst (λ u. IsTrue (asks_turns_of model u)) (sym same) asks)))
  ]

-- ---- one part of a change after the other

-- the lists after a change are counted, but for those of the parts from place k on
pub record IsCountedUpTo (model : Model) (lists : List (List ℕ)) (parts : List ListAfter) (k : ℕ) (listed : List Counts) : Type 0 where
  pub counted : (v : ℕ) → v < length lists → IsTrue (asks_turns_of model v)
      → ((j : ℕ) → k ≤ j → j < length parts → (part_at parts j).vehicle ≢ v) → AreCounted model (route (changed lists parts) v) listed

module _ (model : Model) (lists : List (List ℕ)) (parts : List ListAfter) (are : AreParts lists parts) where
  pub counted_at_first : (listed : List Counts) → AreAllCounted model lists listed → IsCountedUpTo model lists parts 0 listed
  counted_at_first listed all = record {
    counted = λ v low asks none. elim (part_or_before lists parts are v low) [
      | inl part ↦ absurd (none part.0 (omega arith) part.1 part.2)
      | inr same ↦ subst (λ l. AreCounted model l listed) (sym same) (all v low asks)
    ];
  }

  pub counted_part : IsOnce (changed lists parts) → (k : ℕ) → k < length parts → (before after : List Counts)
      → IsCountedUpTo model lists parts k before → IsListCounted model (part_at parts k).vehicle (joined lists (part_at parts k).pieces) before after
      → IsCountedUpTo model lists parts (k + 1) after
  counted_part once k low before after so_far part = record {
    counted = λ v within asks none. elim (eqb_tells (part_at parts k).vehicle v) [
      | inl same ↦ subst (λ w. AreCounted model (route (changed lists parts) w) after) same.1
          (subst (λ l. AreCounted model l after) (sym (part_is lists parts are k low))
          (part.counted (subst (λ w. IsTrue (asks_turns_of model w)) (sym same.1) asks)))
      | inr other ↦
          (let n = as_many_lists lists parts in
          let vehicle = are.each_vehicle k no_part low in
          stays_counted model (changed lists parts) once (part_at parts k).vehicle (omega (arith, n, vehicle)) before after
          (λ node absent. part.others node (ap (λ l. holds l node) (sym (part_is lists parts are k low)) ∙ absent))
          v (omega (arith, n, within)) (λ e. other.1 (sym e))
          (so_far.counted v within asks (λ j high inside. elim (cases_lt k j) [
            | inl later ↦ none j (omega (arith, later)) inside
            | inr not_later ↦ (let same : k ≡ j = omega (arith, high, not_later) in λ e. other.1 (ap (λ i. (part_at parts i).vehicle) same ∙ e))
          ])))
    ];
  }

  pub counted_at_last : (k : ℕ) → length parts ≤ k → (listed : List Counts)
      → IsCountedUpTo model lists parts k listed → AreAllCounted model (changed lists parts) listed
  counted_at_last k past listed so_far = λ v low asks. let n = as_many_lists lists parts in
      so_far.counted v (omega (arith, n, low)) asks (λ j high inside _. omega (arith, past, high, inside))

-- ---- what it tells

asks-none : (policy : Policy) → asks_turns policy ≡ false → policy ≡ Any
asks-none Any e = refl
asks-none Lifo e = absurd (clash true refl e)
asks-none Fifo e = absurd (clash true refl e)

-- a list that serves its pairs keeps all, where its vehicle asks for no turns
pub keeps_unasked : (model : Model) (v : ℕ) (list : List ℕ) → list_all (serves_pair list) model.pairs ≡ true
    → asks_turns_of model v ≡ false → true ≡ keeps_pairs model v list
keeps_unasked model v list served none = sym (ap₂ (λ a b. a && b) served (keeps-any model v list (asks-none (vehicle_at model v).policy none)))

-- with other nodes in the place of a stretch it does where its pairs take turns
pub keeps_between : (model : Model) (v : ℕ) (old middle : List ℕ) (front behind : ℕ) → IsWellFormed model
    → AreSeams (length old) front behind → Serves model old → Serves model (spliced old front behind middle)
    → IsTrue (keeps_policy model v old)
    → takes_turns_between model (vehicle_at model v).policy old front behind middle ≡ keeps_pairs model v (spliced old front behind middle)
keeps_between model v old middle front behind well_formed seams was is kept =
    let new : List ℕ = spliced old front behind middle in
    turns_are_between model (vehicle_at model v).policy old middle front behind well_formed seams
    was is (sym (turns_are_policies model v old well_formed was.distinct was.each_pair) ∙ kept)
    ∙ (sym (turns_are_policies model v new well_formed is.distinct is.each_pair)
    ∙ ap (λ b. b && keeps_policy model v new) (sym is.each_pair))
