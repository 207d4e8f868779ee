-- What a sink that keeps all it can holds after a piece.
use Rattle.std.proofs.Common.{◌≡◌, ◌∙◌, ◌++◌, ◌+◌, ◌≤◌, ◌<◌, ℕ, arith, List, Some, None, Bool, true, false, cond, length, take, sym, refl, nat_lt, ◌||◌}
use Rattle.std.proofs.Common.{length-append}
use Rattle.std.proofs.lemmas.List.{take_all, length-take-le}
use Rattle.std.proofs.Math.Seq.{take-append-add}
use Rattle.std.proofs.lemmas.Bool.Decides.{nat_tests}
use Rattle.vr_io.specs.Edges.{Took}
use Rattle.vr_io.specs.Kept.{Kept, known_bytes, keeping}

-- what has room is all there
take-room : (room : ℕ) (bytes piece : List ℕ) → nat_lt room (length bytes + length piece) ≡ false → take room (bytes ++ piece) ≡ bytes ++ piece
take-room room bytes piece h = take_all room (bytes ++ piece) (rw length-append (grind (arith, nat_tests)))

Took-kept : (lost full : Bool) (old new piece : List ℕ) → (full ≡ false → new ≡ old ++ piece)
    → Took (cond lost None (Some old)) (cond (lost || full) None (Some new)) piece
Took-kept true full old new piece h = record { known = λ after e. absurd (cc) }
Took-kept false true old new piece h = record { known = λ after e. absurd (cc) }
Took-kept false false old new piece h = record { known = λ after e. (old, refl, let k : new ≡ after = cc in sym k ∙ h refl) }

-- where it is known after a piece what a sink took, it was known before
pub Took-known : (kept : Kept) (piece : List ℕ) → Took (known_bytes kept) (known_bytes (keeping piece kept)) piece
Took-known kept piece = Took-kept kept.lost (nat_lt kept.room (length kept.bytes + length piece)) kept.bytes
    (take kept.room (kept.bytes ++ piece)) piece (take-room kept.room kept.bytes piece)

-- a piece of which n bytes fill the room, and one more has none
pub kept_full : (items after piece : List ℕ) (taken n old_room new_room : ℕ) (lost : Bool)
    → taken ≤ length items → taken + n ≡ old_room → new_room ≡ old_room → n < length piece
    → take (taken + length (take n piece)) after ≡ take taken items ++ take n piece
    → record { bytes = take (taken + n) after; room = new_room; lost = true }
    ≡ keeping piece (record { bytes = take taken items; room = old_room; lost = lost })
kept_full items after piece taken n old_room new_room lost inside full same more written =
    let len : length (take n piece) ≡ n = length-take-le n piece (omega arith) in
    let before : length (take taken items) ≡ taken = length-take-le taken items inside in
    let late : nat_lt old_room (length (take taken items) + length piece) ≡ true = grind (arith, nat_tests) in
    let lost_now : (lost || nat_lt old_room (length (take taken items) + length piece)) ≡ true = rw late
    (elim lost as (λ b. (b || true) ≡ true) [ true ↦ refl | false ↦ refl ]) in
    let bytes : take old_room (take taken items ++ piece) ≡ take taken items ++ take n piece =
    rw (← full) (let e = take-append-add (take taken items) piece n in rw before at e) in
    let written_n = rw len at written in
    cc (bytes, written_n, lost_now)
