-- What the end of a scan tells.
use Rattle.std.proofs.Common.{◌≡◌, ℕ, ◌-◌, ◌≤◌, Bool, true, false, List, refl, subst, arith}
use Rattle.std.specs.Prelude.{ℤ, ◌&&◌, IsTrue}
use Rattle.vr_model.specs.moves.Moves.{apply, moves}
use Rattle.vr_model.specs.moves.MoveTests.{is_move}
use Rattle.vr_model.specs.routes.Rules.{is_valid}
use Rattle.vr_model.specs.search.Scans.{Scan, scan}
use Rattle.vr_model.specs.search.Scans.Scan.{Accepted as accepted, Complete as complete, Cut as cut}
use Rattle.vr_model.specs.search.ChoosingLaws.{EndsAs}
use Rattle.vr_model.specs.declared.records.Model.{Model}
use Rattle.vr_model.specs.declared.neighbours.Move.{Move}
use Rattle.vr_model.proofs.searches.ScanEnding.{scan_ends}
use Rattle.vr_model.proofs.tables.Members.{of_contains}
use Rattle.vr_routes.specs.Judging.{cost_change}
use Rattle.vr_descent.specs.Scanned.{is_acceptable, scan_end}
use Rattle.vr_descent.specs.declared.scanning.ScanEnd.TheVariants.{Accepted, Complete, Cut}
use Rattle.vr_descent.proofs.ScanLemmas.{one_move}

-- the scan accepted a move at a place, which makes this difference
pub record AcceptedAt (model : Model) (takes : List (List ℕ) → Move → ℤ → Bool) (lists : List (List ℕ)) (rest place : ℕ) (mv : Move) (change : ℤ) : Type 0 where
  pub scanned : scan (moves model lists) (is_acceptable model takes lists) rest ≡ accepted place mv
  pub changes : change ≡ cost_change model lists mv
  pub from_one : 1 ≤ place
  pub within : place ≤ rest
  pub is_one : IsTrue (is_move model lists mv)
  pub valid : IsTrue (is_valid model (apply model lists mv))
  pub takes_it : takes lists mv (cost_change model lists mv) ≡ true

pub both : (a b : Bool) → (a && b) ≡ true → (a ≡ true) × (b ≡ true)
both true b e = (refl, e)
both false b e = absurd (no e)
  where
    no : false ≡ true → ⊥
    no e = Prim.cc

module _ (model : Model) (takes : List (List ℕ) → Move → ℤ → Bool) (lists : List (List ℕ)) (rest : ℕ) where
  abbrev scanned_as : Scan → Type 0
  scanned_as s = scan (moves model lists) (is_acceptable model takes lists) rest ≡ s

  ends_as : (s : Scan) → scanned_as s → EndsAs (moves model lists) (is_acceptable model takes lists) rest s
  ends_as s e =
      subst (λ x. EndsAs (moves model lists) (is_acceptable model takes lists) rest x) e (scan_ends (moves model lists) (is_acceptable model takes lists) rest)

  of_accepted : (s : Scan) (place : ℕ) (mv : Move) (change : ℤ) → Accepted place mv change ≡ scan_end model lists s
      → (s ≡ accepted place mv) × (change ≡ cost_change model lists mv)
  of_accepted (accepted k m) place mv change e = (Prim.cc, Prim.cc)
  of_accepted (complete n) place mv change e = absurd (no e)
    where
      no : Accepted place mv change ≡ Complete n → ⊥
      no e = Prim.cc
  of_accepted cut place mv change e = absurd (no e)
    where
      no : Accepted place mv change ≡ Cut → ⊥
      no e = Prim.cc

  -- what is known where the scan accepted a move
  pub accepted_where : (place : ℕ) (mv : Move) → scanned_as (accepted place mv) → AcceptedAt model takes lists rest place mv (cost_change model lists mv)
  accepted_where place mv e =
      let ends = ends_as (accepted place mv) e in
      let first = ends.0 in
      let two = both (is_valid model (apply model lists mv)) (takes lists mv (cost_change model lists mv)) first.acceptable_there in
      record {
        scanned = e;
        changes = refl;
        from_one = first.from_one;
        within = ends.1;
        is_one = one_move model model.search.neighbourhoods lists
            mv (of_contains (moves model lists) mv
            (place - 1, (let low = first.from_one in let in_list = first.in_list in omega (arith, low, in_list)), first.stands_there mv));
        valid = two.0;
        takes_it = two.1;
      }

  pub accepted_at : (place : ℕ) (mv : Move) (change : ℤ)
      → Accepted place mv change ≡ scan_end model lists (scan (moves model lists) (is_acceptable model takes lists) rest)
      → AcceptedAt model takes lists rest place mv change
  accepted_at place mv change e = go (of_accepted (scan (moves model lists) (is_acceptable model takes lists) rest) place mv change e)
    where
      go : scanned_as (accepted place mv) × (change ≡ cost_change model lists mv) → AcceptedAt model takes lists rest place mv change
      go h =
          let w = accepted_where place mv h.0 in
          record { scanned = w.scanned; changes = h.1; from_one = w.from_one; within = w.within; is_one = w.is_one; valid = w.valid; takes_it = w.takes_it }

  of_complete : (s : Scan) (n : ℕ) → Complete n ≡ scan_end model lists s → s ≡ complete n
  of_complete (accepted k m) n e = absurd (no e)
    where
      no : Complete n ≡ Accepted k m (cost_change model lists m) → ⊥
      no e = Prim.cc
  of_complete (complete k) n e = Prim.cc
  of_complete cut n e = absurd (no e)
    where
      no : Complete n ≡ Cut → ⊥
      no e = Prim.cc

  -- as many moves as may be tried
  pub completed_where : (n : ℕ) → scanned_as (complete n) → n ≤ rest
  completed_where n h = (ends_as (complete n) h).2

  -- no move is acceptable, and there are so many
  pub completed : (n : ℕ) → Complete n ≡ scan_end model lists (scan (moves model lists) (is_acceptable model takes lists) rest)
      → scanned_as (complete n) × (n ≤ rest)
  completed n e = go (of_complete (scan (moves model lists) (is_acceptable model takes lists) rest) n e)
    where
      go : scanned_as (complete n) → scanned_as (complete n) × (n ≤ rest)
      go h = (h, completed_where n h)

  of_cut : (s : Scan) → Cut ≡ scan_end model lists s → s ≡ cut
  of_cut (accepted k m) e = absurd (no e)
    where
      no : Cut ≡ Accepted k m (cost_change model lists m) → ⊥
      no e = Prim.cc
  of_cut (complete k) e = absurd (no e)
    where
      no : Cut ≡ Complete k → ⊥
      no e = Prim.cc
  of_cut cut e = refl

  -- the tries ran out
  pub was_cut : Cut ≡ scan_end model lists (scan (moves model lists) (is_acceptable model takes lists) rest) → scanned_as cut
  was_cut e = of_cut (scan (moves model lists) (is_acceptable model takes lists) rest) e
