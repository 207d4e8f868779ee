-- Levels along a list, of which some are known.
use Rattle.std.proofs.Common.{◌≡◌, ℕ, zero, suc, ◌+◌, ◌-◌, ◌<◌, ◌≤◌, List, [], ◌∷◌, ◌++◌, length, get_or, set, take, drop, refl, sym, ap, subst, ◌∙◌, arith}
use Rattle.std.proofs.lemmas.List.{length-set}
use Rattle.vr_spans.specs.declared.runs.Run.{Run}
use Rattle.vr_model.specs.tables.Tables.{breaks_of, dimension_at}
use Rattle.vr_model.specs.tables.WellFormed.{IsWellFormed}
use Rattle.vr_model.specs.schedules.Lines.{line}
use Rattle.vr_model.specs.schedules.SoundLines.{LinesAreSound}
use Rattle.vr_model.specs.declared.records.Model.{Model}
use Rattle.vr_model.specs.declared.records.BreakRow.{BreakRow}
use Rattle.vr_model.proofs.schedules.LineArcs.{arcs_of_line}
use Rattle.vr_steps.specs.declared.hops.Hop.{Hop}
use Rattle.vr_steps.specs.Arcs.{IsSoundHop}
use Rattle.vr_steps.specs.Levels.{AreCrossedBack, AreEndLevels, AreLevels, AreStartLevels, IsCrossing, IsCumuls}
use Rattle.vr_steps.specs.Reached.{AreReachingEnd, EndIsReached, EndReachedBeforeArc, IsAllowedSet, StartIsReached, hop_at}
use Rattle.vr_reach.specs.declared.ends.Ends.{Ends}
use Rattle.vr_reach.specs.Rows.{BothWays, row_at}
use Rattle.vr_reach.specs.KnownRows.{AreFirstRows, AreLastRows, AreRowsIfUsed, IsReachingFrom}
use Rattle.vr_reach.specs.Lists.{IsUsed}
use Rattle.vr_reach.specs.Standing.{IsReachedAt}
use Rattle.vr_reach.specs.Stops.{AreEndSets, AreSoundBreaks}
use Rattle.vr_reach.specs.Stretches.{SharesBack, SharesFront}
use Rattle.vr_reach.proofs.LineParts.{end_allows, form_of, sound_line, start_allows_set}
use Rattle.vr_reach.proofs.SweepLemmas.{hold_first, hold_last, read_front, HoldFrom}
use Rattle.vr_reach.proofs.Splicing.{fewer_at_back}
use Rattle.vr_reach.proofs.StandingLemmas.{reached_in}
use Rattle.vr_reach.proofs.Transfer.{reaching_too}

-- an arc of a list, from or to levels of a stop
pub crossing_by : (model : Model) (d v : ℕ) (ends : Ends) → AreSoundBreaks model d v ends
    → (levels : List (List Run)) → AreLevels (breaks_of (dimension_at model d) v) levels → (hop : Hop)
    → IsSoundHop hop → (set : List Run) → IsCumuls set → IsCrossing levels hop set ends.breaks
crossing_by model d v ends are levels form hop sound set cumuls = record {
  each_break = are.valid;
  few_breaks = are.few;
  form = form_of levels are.same form;
  arc = sound;
  cumuls = cumuls;
}

module _ (sound : LinesAreSound) (model : Model) (well : IsWellFormed model) (d v : ℕ)
    (d_low : d < length model.dimensions) (v_low : v < length model.vehicles) where
  -- the levels of the start
  pub started : StartIsReached → (ends : Ends) → AreEndSets model d v ends → (levels : List (List Run)) → AreStartLevels ends.start_set ends.breaks levels
      → AreLevels ends.breaks levels → (list : List ℕ) → IsUsed model list → IsReachedAt model d v list 0 levels
  started law ends are levels is form list used =
      let same = are.breaks_are.same in
      let set = are.start_set_is in record {
        form = subst (λ rows. AreLevels rows levels) same form;
        reached = law (line model d v list) (sound_line sound model well d v d_low v_low list used) ends.start_set levels
            (start_allows_set model d v list ends.start_set set.exact set.cumuls) (subst (λ rows. AreStartLevels ends.start_set rows levels) same is);
      }

  -- the levels of the end
  pub finished : EndIsReached → (ends : Ends) → AreEndSets model d v ends → (levels : List (List Run)) → AreEndLevels ends.end_set ends.breaks levels
      → AreLevels ends.breaks levels → (list : List ℕ) → IsUsed model list → IsReachingFrom model d v list (suc (length list)) levels
  finished law ends are levels is form list used =
      let same = are.breaks_are.same in
      let set = are.end_set_is in
      let last : length (line model d v list).arcs ≡ suc (length list) = arcs_of_line model d v list in record {
        form = subst (λ rows. AreLevels rows levels) same form;
        reaching = subst (λ k. AreReachingEnd (line model d v list) k levels) last
            (law (line model d v list) (sound_line sound model well d v d_low v_low list used) ends.end_set levels
            (subst (λ k. IsAllowedSet (line model d v list) k ends.end_set) (sym last) (end_allows model d v list ends.end_set set.exact set.cumuls))
            (subst (λ rows. AreEndLevels ends.end_set rows levels) same is));
      }

  -- what the end is reached from before the arc from stop k
  pub reaching_before : (list : List ℕ) → IsUsed model list → EndReachedBeforeArc → (breaks : List BreakRow) → breaks ≡ breaks_of (dimension_at model d) v
      → (k : ℕ) → k ≤ length list → (hop : Hop) → hop ≡ hop_at (line model d v list) k → (set : List Run) → IsAllowedSet (line model d v list) k set
      → (to new : List (List Run)) → AreReachingEnd (line model d v list) (suc k) to
      → AreCrossedBack to hop set breaks new → AreReachingEnd (line model d v list) k new
  reaching_before list used law breaks same k le hop hop_is set allows to new reaching crossed =
      let low : k < length (line model d v list).arcs = (let n = arcs_of_line model d v list in omega (arith, n, le)) in
      let here = subst (λ h. AreCrossedBack to h set breaks new) hop_is crossed in
      let there = subst (λ rows. AreCrossedBack to (hop_at (line model d v list) k) set rows new) same here in
      law (line model d v list) (sound_line sound model well d v d_low v_low list used) k low set to new allows reaching there

-- ---- rows in a part of a place

pub read_window : (rows : List (List (List Run))) (first n k : ℕ) (d : List (List Run)) → k < n
    → first + k < length rows → get_or (take n (drop first rows)) k d ≡ row_at rows (first + k)
read_window [] first n k d low lt = absurd (omega (arith, lt))
read_window (r ∷ rs) zero n k d low lt =
    let e : k ≡ 0 + k = omega arith in
    subst (λ i. get_or (take n (r ∷ rs)) k d ≡ row_at (r ∷ rs) i) e (read_front (r ∷ rs) n k d low (omega (arith, lt)))
read_window (r ∷ rs) (suc f) n k d low lt =
    let e : suc (f + k) ≡ suc f + k = omega arith in
    subst (λ i. get_or (take n (drop f rs)) k d ≡ row_at (r ∷ rs) i) e (read_window rs f n k d low (omega (arith, lt)))

pub window_long : (rows : List (List (List Run))) (first n : ℕ) → first + n ≤ length rows → length (take n (drop first rows)) ≡ n
window_long rows zero zero le = refl
window_long [] zero (suc n) le = absurd (omega (arith, le))
window_long (r ∷ rs) zero (suc n) le = ap suc (window_long rs zero n (omega (arith, le)))
window_long [] (suc f) zero le = absurd (omega (arith, le))
window_long [] (suc f) (suc n) le = absurd (omega (arith, le))
window_long (r ∷ rs) (suc f) n le = window_long rs f n (omega (arith, le))

-- the part between what stands before it and behind it
pub window_of : (before part behind : List (List (List Run))) (first n : ℕ) → length before ≡ first
    → length part ≡ n → take n (drop first (before ++ (part ++ behind))) ≡ part
window_of [] part behind zero n is long = front part n long
  where
    front : (xs : List (List (List Run))) (m : ℕ) → length xs ≡ m → take m (xs ++ behind) ≡ xs
    front [] zero e = refl
    front [] (suc m) e = absurd (omega (arith, e))
    front (x ∷ xs) zero e = absurd (omega (arith, e))
    front (x ∷ xs) (suc m) e = ap (λ l. x ∷ l) (front xs m (omega (arith, e)))
window_of [] part behind (suc f) n is long = absurd (omega (arith, is))
window_of (b ∷ bs) part behind zero n is long = absurd (omega (arith, is))
window_of (b ∷ bs) part behind (suc f) n is long = window_of bs part behind f n (omega (arith, is)) long

-- all of a place, written over
pub whole_place : (old new : List (List (List Run))) (n : ℕ) → length new ≡ n → take n (new ++ drop (length new) old) ≡ new
whole_place old new n long = ap (λ i. take i (new ++ drop (length new) old)) (sym long) ∙ all new (drop (length new) old)
  where
    all : (xs ys : List (List (List Run))) → take (length xs) (xs ++ ys) ≡ xs
    all [] ys = refl
    all (x ∷ xs) ys = ap (λ l. x ∷ l) (all xs ys)

-- ---- what is known of rows

module _ (model : Model) (d v : ℕ) (list : List ℕ) where
  -- none
  pub none_first : (rows : List (List (List Run))) → AreFirstRows model d v list 0 rows
  none_first rows = record { within = omega arith; there = omega arith; each = λ k low. absurd (omega (arith, low)) }

  pub none_last : (rows : List (List (List Run))) → AreLastRows model d v list 0 rows
  none_last rows = record { within = omega arith; there = omega arith; each = λ j low. absurd (omega (arith, low)) }

-- the rows from the first that is known on
pub last_from : (model : Model) (d v : ℕ) (list : List ℕ) (n : ℕ) (rows : List (List (List Run)))
    → AreLastRows model d v list n rows → length rows ≡ suc (suc (length list)) → (k : ℕ) → k + n ≡ suc (suc (length list))
    → HoldFrom (IsReachingFrom model d v list) k rows
last_from model d v list n rows are long k at j low less =
    let i : suc (length list) - (suc (length list) - j) ≡ j = omega (arith, less, long) in
    let i_too : length rows - suc (suc (length list) - j) ≡ j = omega (arith, less, long) in
    let here = are.each (suc (length list) - j) (omega (arith, low, less, at, long)) in
    subst (λ x. IsReachingFrom model d v list j (row_at rows x)) i_too
    (subst (λ x. IsReachingFrom model d v list x (row_at rows (length rows - suc (suc (length list) - j)))) i here)

-- the first of nodes that two lists share at the front
fewer_at_front : (old new : List ℕ) (a k : ℕ) → SharesFront old new a → k ≤ a → SharesFront old new k
fewer_at_front old new a k shares le = record {
  same = sym (again k old a le) ∙ (ap (take k) shares.same ∙ again k new a le);
  within_old = (let h = shares.within_old in omega (arith, le, h));
  within_new = (let h = shares.within_new in omega (arith, le, h));
}
  where
    again : (k : ℕ) (l : List ℕ) (a : ℕ) → k ≤ a → take k (take a l) ≡ take k l
    again zero l a le = refl
    again (suc k) [] zero le = refl
    again (suc k) [] (suc a) le = refl
    again (suc k) (y ∷ ys) zero le = absurd (omega (arith, le))
    again (suc k) (y ∷ ys) (suc a) le = ap (λ l. y ∷ l) (again k ys a (omega (arith, le)))

-- a list has the first rows of another with which it shares the front
pub shared_first : (model : Model) (d v : ℕ) (old new : List ℕ) (rows : BothWays) → AreRowsIfUsed model d v old rows → (a : ℕ)
    → SharesFront old new a → (n : ℕ) → (old ≡ [] → n ≡ 0) → (0 < length old → n ≡ a + 1) → AreFirstRows model d v new n rows.forward
shared_first model d v [] new rows kept a shares n empty some =
    subst (λ i. AreFirstRows model d v new i rows.forward) (sym (empty refl)) (none_first model d v new rows.forward)
shared_first model d v (x ∷ xs) new rows kept a shares n empty some =
    let is : n ≡ a + 1 = some (omega arith) in
    let r = (kept refl).forward in
    let old_low = shares.within_old in
    record {
      within = omega (arith, is, shares.within_new);
      there = omega (arith, is, old_low, r.row_of_each_stop);
      each = λ k low. reached_in model d v (x ∷ xs) new k (row_at rows.forward k)
          (fewer_at_front (x ∷ xs) new a k shares (omega (arith, low, is))) (r.each k (omega (arith, low, is, old_low)));
    }

-- a list has the last rows of another with which it shares the back
pub shared_last : (model : Model) (d v : ℕ) (old new : List ℕ) (rows : BothWays) → AreRowsIfUsed model d v old rows → (z : ℕ)
    → SharesBack old new z → (n : ℕ) → (old ≡ [] → n ≡ 0) → (0 < length old → n ≡ z + 1) → AreLastRows model d v new n rows.backward
shared_last model d v [] new rows kept z shares n empty some =
    subst (λ i. AreLastRows model d v new i rows.backward) (sym (empty refl)) (none_last model d v new rows.backward)
shared_last model d v (x ∷ xs) new rows kept z shares n empty some =
    let old : List ℕ = x ∷ xs in
    let is : n ≡ z + 1 = some (omega arith) in
    let r = (kept refl).backward in
    let long = r.row_of_each_stop in
    let old_low = shares.within_old in
    let new_low = shares.within_new in
    record {
      within = omega (arith, is, new_low);
      there = omega (arith, is, old_low, long);
      each = λ j low.
          let le : j ≤ z = omega (arith, low, is) in
          let at : suc (length old - j) ≡ length rows.backward - suc j = omega (arith, long, le, old_low) in
          let at_new : suc (length new - j) ≡ suc (length new) - j = omega (arith, le, new_low) in
          let before = r.each (suc (length old - j)) (omega arith) in
          subst (λ i. IsReachingFrom model d v new (suc (length new) - j) (row_at rows.backward i)) at
          (subst (λ i. IsReachingFrom model d v new i (row_at rows.backward (suc (length old - j)))) at_new (record {
            form = before.form;
            reaching = reaching_too model d v old new j (fewer_at_back old new z j shares le) (row_at rows.backward (suc (length old - j))) before.reaching;
          }));
    }

-- the first row alone, written
pub first_row : (model : Model) (d v : ℕ) (list : List ℕ) (rows : List (List (List Run))) (new : List (List Run))
    → 0 < length rows → IsReachedAt model d v list 0 new → AreFirstRows model d v list 1 (set rows 0 new)
first_row model d v list rows new some here = record {
  within = omega arith;
  there = (let n = length-set rows 0 new in omega (arith, n, some));
  each = λ k low. hold_first (IsReachedAt model d v list) rows new some here k (omega (arith, low));
}

-- the last row alone, written
pub last_row : (model : Model) (d v : ℕ) (list : List ℕ) (rows : List (List (List Run))) (new : List (List Run)) (k : ℕ) → k ≡ suc (length list)
    → length rows ≡ suc (suc (length list)) → IsReachingFrom model d v list (suc (length list)) new → AreLastRows model d v list 1 (set rows k new)
last_row model d v list rows new k at long here =
    let n = length-set rows k new in
    let last : length rows ≡ k + 1 = omega (arith, long, at) in
    let holds = hold_last (IsReachingFrom model d v list) k rows new last (subst (λ i. IsReachingFrom model d v list i new) (sym at) here) in
    record {
      within = omega arith;
      there = omega (arith, n, long);
      each = λ j low.
          let i : k ≡ suc (length list) - j = omega (arith, low, at) in
          let i_too : k ≡ length (set rows k new) - suc j = omega (arith, low, n, last) in
          subst (λ x. IsReachingFrom model d v list (suc (length list) - j) (row_at (set rows k new) x)) i_too
          (subst (λ x. IsReachingFrom model d v list x (row_at (set rows k new) k)) i (holds k (omega arith) (omega (arith, n, last))));
    }

module _ (model : Model) (d v : ℕ) (list : List ℕ) (kept : List (List (List Run))) (first stops : ℕ) (there : first + stops ≤ length kept) (n : ℕ) where
  -- what is known of the first rows, in a place with more room
  pub known_stays : AreFirstRows model d v list n (take stops (drop first kept)) → (k : ℕ) → k ≤ n → (0 < k → first ≡ 0)
      → (fitted : List (List (List Run))) → length kept ≤ length fitted → take (length kept) fitted ≡ kept
      → (wanted : ℕ) → wanted ≡ suc (suc (length list)) → wanted ≤ length fitted → AreFirstRows model d v list k (take wanted fitted)
  known_stays are k le begins fitted more same wanted is room =
      let within = are.within in
      let in_old = are.there in
      let long = window_long kept first stops there in
      let long_new = window_long fitted 0 wanted (omega (arith, room)) in
      record {
        within = omega (arith, within, le);
        there = omega (arith, within, le, is, long_new);
        each = λ j low.
            let at : first ≡ 0 = begins (omega (arith, low)) in
            let in_stops : j < stops = omega (arith, low, le, in_old, long) in
            let in_kept : j < length kept = omega (arith, in_stops, there) in
            let same_at : first + j ≡ j = omega (arith, at) in
            let old : row_at (take stops (drop first kept)) j ≡ row_at kept j = read_window kept first stops j [] in_stops (omega (arith, in_stops, there))
            ∙ ap (row_at kept) same_at in
            let here : row_at (take wanted fitted) j ≡ row_at kept j = read_front fitted
            wanted j [] (omega (arith, low, le, within, is)) (omega (arith, in_kept, more))
            ∙ (sym (read_front fitted (length kept) j [] in_kept (omega (arith, in_kept, more))) ∙ ap (λ rows. row_at rows j) same) in
            subst (IsReachedAt model d v list j) (old ∙ sym here) (are.each j (omega (arith, low, le)));
      }

  -- what is known of the last rows, where they stay in their place
  pub moved_last : AreLastRows model d v list n (take stops (drop first kept)) → (begin wanted : ℕ) → begin + wanted ≡ first + stops
      → wanted ≡ suc (suc (length list)) → AreLastRows model d v list n (take wanted (drop begin kept))
  moved_last are begin wanted ends is =
      let within = are.within in
      let in_old = are.there in
      let long = window_long kept first stops there in
      let long_new = window_long kept begin wanted (omega (arith, ends, there)) in
      record {
        within = within;
        there = omega (arith, within, is, long_new);
        each = λ j low.
            let old_at : first + (length (take stops (drop first kept)) - suc j) ≡ begin + (length (take wanted (drop begin kept)) - suc j) =
            omega (arith, long, long_new, ends, is, within, in_old, low) in
            let old = read_window kept first stops (length (take stops (drop first kept)) - suc j)
            [] (omega (arith, long, low, in_old)) (omega (arith, long, low, in_old, there)) in
            let here = read_window kept begin wanted (length (take wanted (drop begin kept)) - suc j) []
            (omega (arith, long_new, low, within, is)) (omega (arith, long_new, low, within, is, ends, there)) in
            subst (IsReachingFrom model d v list (suc (length list) - j)) (old ∙ (ap (row_at kept) old_at ∙ sym here)) (are.each j low);
      }

-- ---- nothing that two lists share

pub none_at_front : (old new : List ℕ) → SharesFront old new 0
none_at_front old new = record { same = refl; within_old = omega arith; within_new = omega arith }

pub none_at_back : (old new : List ℕ) → SharesBack old new 0
none_at_back old new = record { same = gone old ∙ sym (gone new); within_old = omega arith; within_new = omega arith }
  where
    all : (xs : List ℕ) → drop (length xs) xs ≡ []
    all [] = refl
    all (x ∷ xs) = all xs

    gone : (xs : List ℕ) → drop (length xs - 0) xs ≡ []
    gone xs = let e : length xs - 0 ≡ length xs = omega arith in ap (λ n. drop n xs) e ∙ all xs
