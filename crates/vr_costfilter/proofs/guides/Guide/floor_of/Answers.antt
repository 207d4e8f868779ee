use Rattle.std.proofs.Common.{◌≡◌, ◌∙◌, ℕ, ap₂, sym, arith, to_z, of_z, w64}
use Rattle.std.specs.Prelude.{ℤ, neg_ℤ, pos, ◌^◌, ◌-ℤ◌, ◌≤ℤ◌}
use Rattle.std.specs.Int.{int_max}
use Rattle.std.proofs.lemmas.Int.{ints}
use Rattle.vr_model.specs.tables.Tables.{dimension_at, transit}
use Rattle.vr_spans.specs.declared.runs.Run.{Run}
use Rattle.vr_plan.specs.Bounds.{IsAround}
use Rattle.vr_plan.proofs.BoundLemmas.{read-cumul}
use Rattle.vr_costfilter.specs.Floors.{floor_before, IsStep}
use Rattle.vr_costfilter.specs.Guides.{IsStopAt}
use Rattle.vr_costfilter.specs.declared.guides.Guide.{Guide}
use Rattle.vr_costfilter.specs.declared.trails.Step.{Step}
use Rattle.vr_costfilter.proofs.FloorLemmas.{floor-is, floor-not}
use Rattle.vr_costfilter.proofs.ReadLemmas.{floor-read}
use Rattle.vr_costfilter.proofs.guides.Guide.floor_of.Goals as goal

-- the floor that is found, and the end of the run, as they are read
record IsFound (t s : ℤ) (allowed : Run) (next : Step) (it : ℤ) : Type 0 where
  pub value : it ≡ floor_before next.floor t s allowed
  pub read : to_z w64 (of_z w64 it) ≡ it
  pub high : to_z w64 (of_z w64 allowed.hi) ≡ allowed.hi

found : (g : Guide) {node : ℕ} {allowed : Run} {next : Step} {t r it : ℤ} → IsStopAt g.model.now node allowed
    → IsStep g.model.now next → r ≡ t → neg_ℤ (pos (2 ^ 31)) ≤ℤ r → r ≤ℤ pos (2 ^ 31)
    → it ≡ int_max (to_z w64 (of_z w64 (to_z w64 (of_z w64 (to_z w64 (of_z w64 next.floor) -ℤ to_z w64 (of_z w64 r))) -ℤ to_z w64 (of_z w64 g.slack))))
    (to_z w64 (of_z w64 allowed.lo))
    → IsFound t (dimension_at g.model.now g.d).slack_max allowed next it
found g {node} {allowed} {next} {t} {r} {it} stop step same least greatest is =
    let near : IsAround 100000000000 r = record { low = omega (arith, ints, least); high = omega (arith, ints, greatest) } in
    let told = floor-read next.floor r g.slack allowed.lo it step.floor near g.sound.slack_range stop.ends.lo is in
    record {
      value = told.is ∙ ap₂ (λ (x y : ℤ). int_max ((next.floor -ℤ x) -ℤ y) allowed.lo) same g.sound.slack_is;
      read = told.read;
      high = read-cumul allowed.hi stop.ends.hi;
    }

pub returns-then-floor-allowed-clause-value : goal.returns-then-floor-allowed-clause-value
returns-then-floor-allowed-clause-value c =
    let g = c.args.self.now in
    let t = c.transit-transit.ensures in
    let it = found g c.requires.stop c.requires.next t.value t.least t.greatest c.max-floor.ensures.value in
    sym (floor-not c.args.next.floor (transit g.model.now g.d g.v c.args.node c.args.next.node) (dimension_at g.model.now g.d).slack_max
    c.args.allowed c.max-floor.result it.value (omega (arith, ints, c.if-floor-allowed.true, it.high, it.read)))

pub returns-clause-value : goal.returns-clause-value
returns-clause-value c =
    let g = c.args.self.now in
    let t = c.transit-transit.ensures in
    let it = found g c.requires.stop c.requires.next t.value t.least t.greatest c.max-floor.ensures.value in
    sym (floor-is c.args.next.floor (transit g.model.now g.d g.v c.args.node c.args.next.node)
    (dimension_at g.model.now g.d).slack_max c.args.allowed (to_z w64 (of_z w64 c.max-floor.result))
    (record { is = it.read ∙ it.value; most = omega (arith, ints, c.if-floor-allowed.false, it.high, it.read) }))
