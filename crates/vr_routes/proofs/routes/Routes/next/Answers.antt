use Rattle.std.proofs.Common.{◌≡◌, ◌∙◌, ◌+◌, ℕ, length, refl, ap, subst, inl, inr, arith}
use Rattle.std.specs.Prelude.{slice_index}
use Rattle.vr_routes.specs.Indices.{IsStop}
use Rattle.vr_routes.specs.Seats.{IsSeat}
use Rattle.vr_routes.specs.Tours.{Tours}
use Rattle.vr_routes.proofs.routes.Routes.next.Goals as goal

pub returns-in-Some : goal.returns-in-Some
returns-in-Some c =
    let tours : Tours = c.args.self.now in
    let index : ℕ = c.args.index in
    let v : ℕ = c.in-Some.seat.vehicle in
    let k : ℕ = c.in-Some.seat.place in
    let stands = c.in-Some.ensures in
    let node : c.node_at.result ≡ slice_index tours.visits index = c.node_at.ensures ∙ ap (λ (t : Tours). slice_index t.visits index) c.self.view_is in
    let many = c.len-visits.ensures.value ∙ ap (λ (t : Tours). length t.visits) c.self.view_is in
    let low = c.if-index-visits.true in
    let last = stands.place in
    record {
      vehicle = v;
      stop = k + 1;
      there = stands.vehicle;
      used = omega (arith, last);
      from = inr (inl (k, refl, omega (arith, low, many), subst (λ x. IsSeat tours.lists x v k) node stands));
      to = subst (IsStop tours c.stop_index.result v) (omega arith) c.stop_index.ensures;
    }
