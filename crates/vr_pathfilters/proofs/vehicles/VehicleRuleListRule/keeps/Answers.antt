use Rattle.std.proofs.Common.{◌≡◌, ◌∙◌, ◌<◌, ℕ, List, [], ◌∷◌, true, None, length, refl, ap, sym, subst, arith}
use Rattle.std.specs.Prelude.{◌==◌, find, IsTrue}
use Rattle.std.specs.List.{list_all}
use Rattle.std.proofs.lemmas.Bool.{eqb-true}
use Rattle.vr_model.specs.declared.records.Allowed.{Allowed}
use Rattle.vr_model.specs.declared.records.Model.{Model}
use Rattle.vr_model.specs.routes.Routes.{route}
use Rattle.vr_model.specs.routes.Rules.{allows_vehicle, row_allows_vehicle}
use Rattle.vr_model.proofs.tables.Tests.{list_all-true}
use Rattle.vr_routes.proofs.PartLemmas.{has_ends}
use Rattle.vr_routes.specs.Pieces.{joined, part_at}
use Rattle.vr_pathfilters.specs.Vehicles.{are_allowed_pieces, is_allowed_list}
use Rattle.vr_pathfilters.proofs.PartEnds.{part_vehicle}
use Rattle.vr_pathfilters.proofs.PartTours.{rule_at}
use Rattle.vr_pathfilters.proofs.VehicleLemmas.{all-joined, all-spliced}
use Rattle.vr_pathfilters.proofs.vehicles.VehicleRuleListRule.keeps.Goals as goal

-- without rows each visit allows each vehicle
allowing_all : (v : ℕ) (rows : List Allowed) (list : List ℕ) → length rows ≡ 0
    → true ≡ list_all (λ node. row_allows_vehicle (find (λ row. row.node == node) rows) v) list
allowing_all v [] list e = sym (list_all-true (λ node. row_allows_vehicle None v) (λ node. refl) list)
allowing_all v (row ∷ rows) list e = absurd (omega (arith, e))

pub returns-then-is_empty-clause-answer : goal.returns-then-is_empty-clause-answer
returns-then-is_empty-clause-answer c =
    let model : Model = c.args.self.now.lookups.closed.model.now in
    let part = part_at c.args.change.now c.args.k in
    let none = sym c.is_empty.ensures ∙ c.if-is_empty.true in
    allowing_all part.vehicle model.allowed (joined c.args.routes.now.lists part.pieces) (eqb-true (length model.allowed) 0 none)

pub splice-splice-requires-clause-ends : goal.splice-splice-requires-clause-ends
splice-splice-requires-clause-ends c = has_ends c.args.routes.now.lists c.args.change.now c.requires.made.makes.parts_are c.args.k c.requires.part

pub pieces_allow-requires : goal.pieces_allow-requires
pieces_allow-requires c =
    let lists : List (List ℕ) = c.args.routes.now.lists in
    let v = c.splice-splice.result.vehicle in
    let low : v < length lists = part_vehicle c.requires.made.makes.parts_are c.args.k c.requires.part c.splice-splice.ensures.vehicle in
    record {
      rule = subst (λ m. IsTrue (is_allowed_list m v (route lists v))) (sym c.nodes.ensures)
          (rule_at (is_allowed_list c.args.self.now.lookups.closed.model.now) lists c.requires.before v low);
      within = (c.splice-splice.ensures.ends c.args.routes.now.lists c.requires.made.makes.parts_are).within;
    }

pub returns-clause-answer : goal.returns-clause-answer
returns-clause-answer c =
    let model : Model = c.args.self.now.lookups.closed.model.now in
    let lists : List (List ℕ) = c.args.routes.now.lists in
    let part = part_at c.args.change.now c.args.k in
    let v = part.vehicle in
    let ends = c.splice-splice in
    let low : v < length lists = part_vehicle c.requires.made.makes.parts_are c.args.k c.requires.part refl in
    c.pieces_allow.ensures
    ∙ (ap (λ m. are_allowed_pieces m lists ends.result.vehicle ends.result.middle.now) c.nodes.ensures
    ∙ (ap (λ w. are_allowed_pieces model lists w ends.result.middle.now) ends.ensures.vehicle
    ∙ (sym (all-joined (allows_vehicle model v) lists ends.result.middle.now)
    ∙ (sym (all-spliced (allows_vehicle model v) (route lists v) (joined lists ends.result.middle.now)
    ends.result.front ends.result.behind (rule_at (is_allowed_list model) lists c.requires.before v low))
    ∙ sym (ap (list_all (allows_vehicle model v)) (ends.ensures.ends lists c.requires.made.makes.parts_are).joins)))))
