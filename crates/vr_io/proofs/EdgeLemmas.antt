-- What a source gives and a sink takes in two calls, one after the other.
use Rattle.std.proofs.Common.{◌≡◌, ◌∙◌, ◌++◌, ◌+◌, ◌-◌, ◌≤◌, ℕ, arith, List, Option, length, take, drop, sym, ap, append_assoc}
use Rattle.std.proofs.lemmas.List.{take-append-drop, length-take-le, take_all, length-drop}
use Rattle.std.proofs.Math.Seq.{take-append-add}
use Rattle.vr_io.specs.Edges.{Gave, Took}

pub Gave-append : (a b c : Option (List ℕ)) (x y : List ℕ) → Gave a b x → Gave b c y → Gave a c (x ++ y)
Gave-append a b c x y h k = record {
  known = λ bytes e. let m = h.known bytes e in let n = k.known m.0 m.2 in
      (n.0, m.1 ∙ ap (λ r. x ++ r) n.1 ∙ sym (append_assoc x y n.0), n.2);
}

pub Took-append : (a b c : Option (List ℕ)) (x y : List ℕ) → Took a b x → Took b c y → Took a c (x ++ y)
Took-append a b c x y h k = record {
  known = λ after e. let n = k.known after e in let m = h.known n.0 n.1 in
      (m.0, m.1, n.2 ∙ ap (λ r. r ++ y) m.2 ∙ append_assoc m.0 x y);
}

pub take-add : (xs : List ℕ) (at n : ℕ) → at ≤ length xs → take (at + n) xs ≡ take at xs ++ take n (drop at xs)
take-add xs at n h =
    let e : length (take at xs) ≡ at = length-take-le at xs h in
    let f : take (length (take at xs) + n) (take at xs ++ drop at xs) ≡ take at xs ++ take n (drop at xs) = take-append-add (take at xs) (drop at xs) n in
    rw (e, take-append-drop at xs) at f

-- a piece more of the bytes was taken
pub Took-more : (a b c : Option (List ℕ)) (xs : List ℕ) (at n : ℕ) → at ≤ length xs
    → Took a b (take at xs) → Took b c (take n (drop at xs)) → Took a c (take (at + n) xs)
Took-more a b c xs at n le h k = rw (take-add xs at n le) (Took-append a b c (take at xs) (take n (drop at xs)) h k)

-- the value of `&xs[at..]`
pub drop_rest : (xs : List ℕ) (at : ℕ) → take (length xs - at) (drop at xs) ≡ drop at xs
drop_rest xs at = take_all (length xs - at) (drop at xs) (omega (arith, length-drop at xs))
