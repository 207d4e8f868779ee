use Rattle.std.proofs.Common.{◌≡◌, ◌∙◌, ap, arith, to_z, of_z, w64}
use Rattle.std.specs.Prelude.{pos, negsuc}
use Rattle.std.specs.Int.{int_max, int_min}
use Rattle.std.proofs.lemmas.Int.{ints, int_max_is, int_min_is}
use Rattle.vr_earliest.specs.declared.ways.Way.{Way}
use Rattle.vr_earliest.specs.Ways.{span_by, whole_way}
use Rattle.vr_earliest.proofs.earliest.early_of.Goals as goal

pub returns : goal.returns
returns c list is =
    let g = c.args.guide.now in
    let whole = c.args.whole in
    let early = c.requires.early in
    let late = c.requires.late in
    let way = whole_way g.model.now g.d g.v list in
    let e : whole.time ≡ way.time = ap (λ (w : Way). w.time) is in
    let time : to_z w64 (of_z w64 whole.time) ≡ whole.time = omega (arith, ints, early, late) in
    let a = c.min.ensures.value ∙ ap (λ x. int_min x (pos 68719476736)) time in
    let m = int_min_is whole.time (pos 68719476736) in
    let n = int_min_is (pos 68719476736) way.time in
    let span = span_by g.model.now g.d g.v whole in
    let spanned : to_z w64 (of_z w64 c.span_by-span.result) ≡ c.span_by-span.result = omega (arith, ints, c.span_by-span.type_inv) in
    let b = c.min-2.ensures.value ∙ ap (λ x. int_min x (pos 68719476736)) (spanned ∙ c.span_by-span.ensures) in
    let p = int_min_is span (pos 68719476736) in
    let q = int_min_is (pos 68719476736) span in
    let same : to_z w64 (of_z w64 c.min-2.result) ≡ int_min (pos 68719476736) span = omega (arith, ints, b, p, q, c.min-2.type_inv) in
    let d = c.max.ensures.value ∙ ap (λ x. int_max x (negsuc 68719476735)) same in
    let x = int_max_is (int_min (pos 68719476736) span) (negsuc 68719476735) in
    let y = int_max_is (negsuc 68719476735) (int_min (pos 68719476736) span) in
    let short : c.max.result ≡ int_max (negsuc 68719476735) (int_min (pos 68719476736) span) = omega (arith, ints, d, x, y, c.max.type_inv) in
    let read : to_z w64 (of_z w64 c.max.result) ≡ c.max.result = omega (arith, ints, c.max.type_inv) in
    record {
      last = omega (arith, ints, a, m, n, e, early, late);
      span = read ∙ short ∙ ap (λ (w : Way). int_max (negsuc 68719476735) (int_min (pos 68719476736) (span_by g.model.now g.d g.v w))) is;
      last_range = record { at_least = omega (arith, ints, a, m, early, late); at_most = omega (arith, ints, a, m, early, late) };
      span_range = record { at_least = omega (arith, ints, d, x, c.max.type_inv); at_most = omega (arith, ints, d, x, p, c.max.type_inv) };
    }
