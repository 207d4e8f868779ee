-- Trees of generated models are printed.
use Rattle.std.proofs.Common.{◌≡◌, ◌∙◌, ◌⊎◌, inl, inr, ◌≤◌, ℕ, List, [], ◌∷◌, false, Option, None, Some, refl, ap, arith, map, length, option_map}
use Rattle.serde_json.specs.Data.{Data, depth, items_depth}
use Rattle.serde_json.specs.View.{items_of}
use Rattle.serde_json.specs.Written.{has_float, items_have_float}
use Rattle.vr_model.specs.tables.Numbers.{below}
use Rattle.vr_gen.specs.Draws.{customers, drawn_sites}
use Rattle.vr_gen.specs.Generated.{demand_of, distance_entry, generated, group, loads, model_of, rest, row, search_row, services, times, vehicle, window}
use Rattle.vr_json.specs.Trees.{count, listed}
use Rattle.vr_gen.specs.declared.draws.Site.{Site}
use Rattle.vr_gen.specs.declared.draws.Customer.{Customer}
use Rattle.vr_model.specs.declared.search.Event.{Event}
use Rattle.vr_gen.proofs.Solved.{generated_models_are_solved}
use Rattle.vr_app.specs.Found.{found_from}
use Rattle.vr_app.specs.Reply.{reply, reply_generated, reply_in, reply_of_demo, summary_of_found, summary_of_model}
use Rattle.vr_app.specs.Runs.{IsNotAccepted, ReadsNothing}
use Rattle.vr_app.specs.Words.{is_read, request_of}
use Rattle.vr_app.specs.declared.words.Mode.TheVariants as mode
use Rattle.vr_app.specs.declared.words.Request.{Request}
use Rattle.vr_app.specs.declared.words.Request.TheVariants as request
use Rattle.vr_app.proofs.ReplyLemmas.{IsPrintable}

pub no_float_items : {A : Type 0} (f : A → Data) → ((x : A) → has_float (f x) ≡ false) → (xs : List A) → items_have_float (items_of (map f xs)) ≡ false
no_float_items f h [] = refl
no_float_items f h (x ∷ xs) = rw (h x) (no_float_items f h xs)

pub depth_items : {A : Type 0} (f : A → Data) (n : ℕ) → ((x : A) → depth (f x) ≤ n) → (xs : List A) → items_depth (items_of (map f xs)) ≤ n
depth_items f n h [] = omega arith
depth_items f n h (x ∷ xs) = omega (arith, h x, depth_items f n h xs)

-- numbers
no_float_counts : (ns : List ℕ) → has_float (listed count ns) ≡ false
no_float_counts = no_float_items count (λ n. refl)

depth_counts : (ns : List ℕ) → depth (listed count ns) ≤ 1
depth_counts ns = omega (arith, depth_items count 0 (λ n. omega arith) ns)

no_float_row : (sites : List Site) (a : Site) → has_float (row sites a) ≡ false
no_float_row sites a = no_float_items (distance_entry a) (λ b. refl) sites

depth_row : (sites : List Site) (a : Site) → depth (row sites a) ≤ 1
depth_row sites a = omega (arith, depth_items (distance_entry a) 0 (λ b. omega arith) sites)

no_float_times : (customers : List Customer) → has_float (times customers) ≡ false
unfolding times
no_float_times customers =
    let rests = no_float_items rest (λ v. refl) (below 6) in
    let windows = no_float_items (window customers) (λ k. refl) (below (length customers)) in
    let added = no_float_counts (0 ∷ services) in
    rw (rests, windows, added) refl

depth_times : (customers : List Customer) → depth (times customers) ≤ 5
unfolding times
depth_times customers =
    let rests = depth_items rest 3 (λ v. omega arith) (below 6) in
    let windows = depth_items (window customers) 2 (λ k. omega arith) (below (length customers)) in
    let added = depth_counts (0 ∷ services) in
    omega (arith, rests, windows, added)

no_float_loads : (customers : List Customer) → has_float (loads customers) ≡ false
unfolding loads
no_float_loads customers = rw (no_float_counts (0 ∷ map demand_of customers)) refl

depth_loads : (customers : List Customer) → depth (loads customers) ≤ 5
unfolding loads
depth_loads customers = omega (arith, depth_counts (0 ∷ map demand_of customers))

no_float_model : (sites : List Site) (customers : List Customer) → has_float (model_of sites customers) ≡ false
unfolding model_of search_row
no_float_model places people =
    let groups = no_float_items group (λ k. refl) (below 60) in
    let rows = no_float_items (row places) (no_float_row places) places in
    let vehicles = no_float_items {A = ℕ} (λ v. vehicle) (λ v. refl) (below 6) in
    rw (no_float_times people, no_float_loads people, groups, rows, vehicles) refl

depth_model : (sites : List Site) (customers : List Customer) → depth (model_of sites customers) ≤ 8
unfolding model_of search_row
depth_model places people =
    let groups = depth_items group 2 (λ k. omega arith) (below 60) in
    let rows = depth_items (row places) 1 (depth_row places) places in
    let vehicles = depth_items {A = ℕ} (λ v. vehicle) 1 (λ v. omega arith) (below 6) in
    omega (arith, depth_times people, depth_loads people, groups, rows, vehicles)

pub generated-printable : (n : ℕ) → IsPrintable (generated n)
unfolding generated
generated-printable n = record {
  whole = no_float_model (drawn_sites n).0 (customers n);
  nested = omega (arith, depth_model (drawn_sites n).0 (customers n));
}

-- ---- the replies to numbers

-- the model of a number is read and solved, so its search can be reported
pub demo-done : (n : ℕ) → (reply_of_demo n).status ≡ 0
unfolding reply_of_demo
demo-done n =
    let solved = generated_models_are_solved n [] in
    ap (λ m. (summary_of_model n m).status) solved.is_read
    ∙ ap (λ o. (summary_of_found n solved.model (option_map (found_from mode.Solve solved.model) o)).status) solved.are_first

pub generated-done : (n : ℕ) → (reply_generated n).status ≡ 0
unfolding reply_generated
generated-done n = refl

pub or-else : {A B C : Type 0} → (B → C) → A ⊎ B → A ⊎ C
or-else f (inl a) = inl a
or-else f (inr b) = inr (f b)

-- words that read nothing and are accepted have a reply of status 0
pub unread-done : (reports : List Event → List ℕ) (words : List (List ℕ)) (bytes : List ℕ)
    → ReadsNothing words → IsNotAccepted words ⊎ ((reply reports words bytes).status ≡ 0)
unread-done reports words bytes unread = by (request_of words) unread
  where
    by : (o : Option Request) → is_read o ≡ false → (o ≡ None) ⊎ ((reply_in reports o bytes).status ≡ 0)
    by None h = inl refl
    by (Some (request.Read asked)) h = absurd cc
    by (Some (request.Import vehicles)) h = absurd cc
    by (Some (request.Generate n)) h = inr (generated-done n)
    by (Some (request.Demo n)) h = inr (demo-done n)
