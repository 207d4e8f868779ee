use Rattle.std.proofs.Common.{◌≡◌, ◌∙◌, inl, inr, ◌<◌, List, length, length-set, refl, ap, sym, subst, arith}
use Rattle.std.specs.Prelude.{slice_index_or, slice_set}
use Rattle.std.proofs.lemmas.Bool.{cases_lt}
use Rattle.std.proofs.lemmas.List.{get_or_default, get_or-set_same, get_or-set_other}
use Rattle.vr_earliest.proofs.WritingLemmas.{written-more}
use Rattle.vr_costfilter.proofs.KnownLemmas.{known-at}
use Rattle.vr_model.specs.moves.Moves.{with_route}
use Rattle.vr_costfilter.specs.declared.kept.KeptList.{KeptList}
use Rattle.vr_costfilter.specs.Kept.{AreKept}
use Rattle.vr_costfilter.proofs.all_cumuls.write_list.Goals as goal

pub write-requires : goal.write-requires
write-requires c =
    record {
      known = known-at c.args.tour.now.closed.model.now c.args.tables.now c.requires.tables c.loop-d.d c.index-tables-d.result
          c.index-tables-d.is (omega (arith, c.requires.tables.one_of_each, c.loop-d-test.true, c.loop-d.invariant.many, c.requires.many));
    }

pub loop-d-init : goal.loop-d-init
loop-d-init c = record {
  many = c.requires.many;
  written = λ lists all known. record { done = λ d other low. absurd (omega (arith, low)); left = λ d other _ low. all.each d other low };
  as_many = λ d other low. refl;
}

pub returns-clause-kept : goal.returns-clause-kept
returns-clause-kept c lists all known =
    let i = c.loop-d.invariant in
    record { many = i.many; each = λ d other low. (i.written lists all known).done d other (omega (arith, low, i.many, c.requires.many, c.loop-d-test.false)) }

pub loop-d-preserved : goal.loop-d-preserved
loop-d-preserved c =
    let i = c.loop-d.invariant in
    let m = c.args.tour.now.closed.model.now in
    let kept : List (List KeptList) = c.loop-d.kept in
    let at = c.loop-d.d in
    let new : List KeptList = c.write.new.self in
    let many = length-set kept at new in
    let inside : at < length kept = omega (arith, c.loop-d-test.true, i.many, c.requires.many) in
    record {
      many = many ∙ i.many;
      written = λ lists all known.
          let h = i.written lists all known in
          written-more (λ d (ones : List KeptList). AreKept m d (with_route lists c.args.tour.now.v c.args.tour.now.list.now) ones)
          (λ d (ones : List KeptList). AreKept m d lists ones) at kept h inside new
          (c.write.ensures.kept lists (h.left at c.index-kept-d.result (omega arith) inside) known);
      as_many = λ d other low.
          let apart = λ (e : (d ≡ at) → ⊥). ap length (get_or-set_other kept at d new other e) ∙ i.as_many d other (omega (arith, low, many)) in
          elim (cases_lt d at) [
            | inl less ↦ apart (λ e. absurd (omega (arith, e, less)))
            | inr high ↦ elim (cases_lt at d) [
              | inl more ↦ apart (λ e. absurd (omega (arith, e, more)))
              | inr least ↦ (
                  let here : d ≡ at = omega (arith, high, least) in
                  let there = i.as_many at c.index-kept-d.result inside in
                  let first : at < length c.args.kept.now = omega (arith, c.requires.many, i.many, inside) in
                  let set = ap length (get_or-set_same kept at new other inside) ∙ c.write.ensures.many
                  ∙ there ∙ ap length (get_or_default c.args.kept.now at c.index-kept-d.result other first) in
                  subst (λ n. length (slice_index_or (slice_set kept at new) n other) ≡ length (slice_index_or c.args.kept.now n other)) (sym here) set)
            ]
          ];
    }
