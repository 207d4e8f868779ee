-- Files, and what they are replied.
use Rattle.std.proofs.Common.{◌≡◌, ◌∙◌, ◌-◌, ◌≤◌, ◌<◌, ◌↔◌, ℕ, Bool, true, false, cond, List, Result, Ok, Err, refl, ap, sym, arith, length}
use Rattle.std.specs.Prelude.{nat_lt}
use Rattle.std.proofs.lemmas.Bool.Decides.{nat_tests}
use Rattle.serde_json.specs.Data.{Data, depth}
use Rattle.serde_json.specs.Written.{has_float}
use Rattle.vr_json.specs.Trees.{text_line, count, listed}
use Rattle.vr_json.specs.declared.fault.Fault.{Fault}
use Rattle.vr_json.proofs.Readings.{Ensures, after, any_value, gives}
use Rattle.vr_model.specs.tables.Numbers.{below}
use Rattle.vr_tsplib.specs.Imported.{imported, model_of_lines}
use Rattle.vr_tsplib.specs.Rows.{demand_of}
use Rattle.vr_tsplib.specs.Trees.{demands, distance, file_nodes, fleet, loads, matrix, plane, plane_row, sites, square, square_row, tree_of, vehicle, weight}
use Rattle.vr_tsplib.specs.declared.files.State.{State}
use Rattle.vr_tsplib.specs.declared.section_rows.SiteRow.{SiteRow}
use Rattle.vr_tsplib.specs.declared.summaries.Distances.{Distances}
use Rattle.vr_tsplib.specs.declared.summaries.Distances.TheVariants.{Plane, Full, Lower}
use Rattle.vr_tsplib.specs.declared.summaries.Problem.{Problem}
use Rattle.vr_app.specs.Causes.{HasFlaw, IsFile, IsFlawed, IsImportedAs, IsTooLong}
use Rattle.vr_app.specs.Input.{max_input}
use Rattle.vr_app.specs.Reply.{Reply, reply_to_file, reply_to_imported, too_long}
use Rattle.vr_app.specs.Texts.{refused_tree}
use Rattle.vr_app.proofs.GeneratedLemmas.{depth_items, no_float_items}
use Rattle.vr_app.proofs.ReplyLemmas.{IsPrintable}

-- ---- trees of files are printed

no_float_counts : {A : Type 0} (f : A → ℕ) (xs : List A) → has_float (listed (λ x. count (f x)) xs) ≡ false
no_float_counts f xs = no_float_items (λ x. count (f x)) (λ x. refl) xs

depth_counts : {A : Type 0} (f : A → ℕ) (xs : List A) → depth (listed (λ x. count (f x)) xs) ≤ 1
depth_counts f xs = omega (arith, depth_items (λ x. count (f x)) 0 (λ x. omega arith) xs)

no_float_rows : {A : Type 0} (f : A → Data) → ((x : A) → has_float (f x) ≡ false) → (xs : List A) → has_float (listed f xs) ≡ false
no_float_rows f h xs = no_float_items f h xs

depth_rows : {A : Type 0} (f : A → Data) → ((x : A) → depth (f x) ≤ 1) → (xs : List A) → depth (listed f xs) ≤ 2
depth_rows f h xs = omega (arith, depth_items f 1 h xs)

no_float_plane : (places : List SiteRow) → has_float (plane places) ≡ false
no_float_plane places = no_float_rows (plane_row places) (λ a. no_float_counts (distance a) places) places

depth_plane : (places : List SiteRow) → depth (plane places) ≤ 2
depth_plane places = depth_rows (plane_row places) (λ a. depth_counts (distance a) places) places

no_float_square : (lower : Bool) (n : ℕ) (weights : List ℕ) → has_float (square lower n weights) ≡ false
no_float_square lower n weights = no_float_rows (square_row lower n weights) (λ i. no_float_counts (weight lower n weights i) (below n)) (below n)

depth_square : (lower : Bool) (n : ℕ) (weights : List ℕ) → depth (square lower n weights) ≤ 2
depth_square lower n weights = depth_rows (square_row lower n weights) (λ i. depth_counts (weight lower n weights i) (below n)) (below n)

no_float_matrix : (distances : Distances) (n : ℕ) (state : State) → has_float (matrix distances n state) ≡ false
no_float_matrix Plane n state = no_float_plane (sites n state.sites)
no_float_matrix Full n state = no_float_square false n state.weights
no_float_matrix Lower n state = no_float_square true n state.weights

depth_matrix : (distances : Distances) (n : ℕ) (state : State) → depth (matrix distances n state) ≤ 2
depth_matrix Plane n state = depth_plane (sites n state.sites)
depth_matrix Full n state = depth_square false n state.weights
depth_matrix Lower n state = depth_square true n state.weights

no_float_demands : (n : ℕ) (state : State) → has_float (demands n state) ≡ false
no_float_demands n state = no_float_counts (demand_of state.demands) (file_nodes n)

depth_demands : (n : ℕ) (state : State) → depth (demands n state) ≤ 1
depth_demands n state = depth_counts (demand_of state.demands) (file_nodes n)

no_float_loads : (capacity : ℕ) (d : Data) → has_float d ≡ false → has_float (loads capacity d) ≡ false
unfolding loads
no_float_loads capacity d h = simp h

depth_loads : (capacity : ℕ) (d : Data) → depth d ≤ 1 → depth (loads capacity d) ≤ 4
unfolding loads
depth_loads capacity d h = omega (arith, h)

no_float_fleet : (vehicles node : ℕ) → has_float (fleet vehicles node) ≡ false
no_float_fleet vehicles node = no_float_items {A = ℕ} (λ v. vehicle node) (λ v. refl) (below vehicles)

depth_fleet : (vehicles node : ℕ) → depth (fleet vehicles node) ≤ 2
depth_fleet vehicles node = omega (arith, depth_items {A = ℕ} (λ v. vehicle node) 1 (λ v. omega arith) (below vehicles))

tree-printable : (vehicles : ℕ) (state : State) (problem : Problem) → IsPrintable (tree_of vehicles state problem)
unfolding tree_of
tree-printable vehicles state problem =
    let n = problem.nodes in
    let orders = no_float_loads problem.capacity (demands n state) (no_float_demands n state) in
    let cars = no_float_fleet vehicles (problem.depot - 1) in
    let deep = depth_loads problem.capacity (demands n state) (depth_demands n state) in
    record {
      whole = rw (orders, no_float_matrix problem.distances n state, cars) refl;
      nested = omega (arith, deep, depth_matrix problem.distances n state, depth_fleet vehicles (problem.depot - 1));
    }

imported_ensures : (vehicles : ℕ) (bytes : List ℕ) → Ensures IsPrintable (imported vehicles bytes)
unfolding imported model_of_lines
imported_ensures vehicles bytes =
    after any_value λ state _.
    after any_value λ problem _.
    gives (tree-printable vehicles state problem)

pub imported-printable : (vehicles : ℕ) (bytes : List ℕ) (tree : Data) → imported vehicles bytes ≡ Ok tree → IsPrintable tree
imported-printable vehicles bytes tree is = (imported_ensures vehicles bytes).of_value tree is

-- ---- the reply to a file

module _ (vehicles : ℕ) (bytes : List ℕ) where
  -- the reply to a file that is not too long
  pub file-short : length bytes ≤ max_input → reply_to_file vehicles bytes ≡ reply_to_imported (imported vehicles bytes)
  unfolding reply_to_file
  file-short h =
      let e : nat_lt max_input (length bytes) ≡ false = grind (arith, nat_tests) in
      ap (λ b. cond b too_long (reply_to_imported (imported vehicles bytes))) e

  -- the reply to one that is too long
  pub file-long : max_input < length bytes → reply_to_file vehicles bytes ≡ too_long
  unfolding reply_to_file
  file-long h =
      let e : nat_lt max_input (length bytes) ≡ true = grind (arith, nat_tests) in
      ap (λ b. cond b too_long (reply_to_imported (imported vehicles bytes))) e

  -- what holds of the reply to each kind of file holds of the reply to the bytes
  module _ (P : Reply → Type 0) (of_long : max_input < length bytes → P too_long)
      (of_read : length bytes ≤ max_input → (m : Result Data Fault) → imported vehicles bytes ≡ m → P (reply_to_imported m)) where
    of_file : P (reply_to_file vehicles bytes)
    unfolding reply_to_file
    of_file = by (nat_lt max_input (length bytes)) refl
      where
        by : (b : Bool) → nat_lt max_input (length bytes) ≡ b → P (cond b too_long (reply_to_imported (imported vehicles bytes)))
        by true e = of_long (grind (arith, nat_tests))
        by false e = of_read (grind (arith, nat_tests)) (imported vehicles bytes) refl

-- which files have this status
pub record ClassifiesFile (vehicles : ℕ) (bytes : List ℕ) (status : ℕ) : Type 0 where
  pub too_long : (status ≡ 8) ↔ IsTooLong bytes
  pub flawed : (status ≡ 5) ↔ IsFlawed vehicles bytes
  pub done : (status ≡ 0) ↔ IsFile vehicles bytes
  pub json : status ≡ 4 → ⊥

module _ (vehicles : ℕ) (bytes : List ℕ) where
  long-classifies : max_input < length bytes → ClassifiesFile vehicles bytes 8
  long-classifies long = record {
    too_long = (λ e. long, λ h. refl);
    flawed = (λ e. absurd (omega arith), λ h. absurd (omega (arith, h.1.short)));
    done = (λ e. absurd (omega arith), λ h. absurd (omega (arith, h.1.short)));
    json = λ e. absurd (omega arith);
  }

  imported-classifies : length bytes ≤ max_input → (m : Result Data Fault)
      → imported vehicles bytes ≡ m → ClassifiesFile vehicles bytes (reply_to_imported m).status
  imported-classifies short (Err fault) is = record {
    too_long = (λ e. absurd (omega arith), λ h. absurd (omega arith));
    flawed = (λ e. (fault, record { short = short; is_fault = is }), λ h. refl);
    done = (λ e. absurd (omega arith), λ h. let same = sym is ∙ h.1.is_tree in absurd cc);
    json = λ e. absurd (omega arith);
  }
  imported-classifies short (Ok tree) is = record {
    too_long = (λ e. absurd (omega arith), λ h. absurd (omega arith));
    flawed = (λ e. absurd (omega arith), λ h. let same = sym is ∙ h.1.is_fault in absurd cc);
    done = (λ e. (tree, record { short = short; is_tree = is }), λ h. refl);
    json = λ e. absurd (omega arith);
  }

  pub file-classifies : ClassifiesFile vehicles bytes (reply_to_file vehicles bytes).status
  file-classifies = of_file vehicles bytes (λ reply. ClassifiesFile vehicles bytes reply.status) long-classifies imported-classifies

  -- a refusal says the fault
  pub file-refused : (fault : Fault) → HasFlaw vehicles bytes fault → (reply_to_file vehicles bytes).text ≡ text_line (refused_tree fault)
  file-refused fault h = ap (λ reply. reply.text) (file-short vehicles bytes h.short ∙ ap reply_to_imported h.is_fault)

  -- a model is reported
  pub file-reported : (reply_to_file vehicles bytes).status ≡ 0
      → (tree : Data) × IsImportedAs vehicles bytes tree × ((reply_to_file vehicles bytes).text ≡ text_line tree)
  file-reported zero =
      let is = file-classifies.done.0 zero in
      (is.0, is.1, ap (λ reply. reply.text) (file-short vehicles bytes is.1.short ∙ ap reply_to_imported is.1.is_tree))
