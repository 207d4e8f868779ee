-- Moves that are passed over one after the other.
use Rattle.std.proofs.Common.{◌≡◌, ◌∙◌, ℕ, zero, suc, ◌+◌, ◌-◌, ◌<◌, ◌≤◌, ◌^◌, Bool, true, List, [], ◌∷◌, ◌++◌, length, map, refl, sym, ap, subst, false, arith}
use Rattle.std.proofs.Common.{append_assoc, length-append, cond}
use Rattle.std.specs.Prelude.{min, Option, Some, None, IfSome, All, IsTrue, filter}
use Rattle.std.specs.List.{range_with_len}
use Rattle.std.proofs.lemmas.List.{append-nil, length-map, map-append}
use Rattle.std.proofs.lemmas.List.Elements.{All-append, All-cons, All-head, All-nil, filter-append}
use Rattle.vr_model.proofs.tables.Tests.{clash}
use Rattle.vr_model.specs.tables.Numbers.{from_to}
use Rattle.vr_model.specs.moves.Kinds.{kind_of}
use Rattle.vr_model.specs.declared.neighbours.Neighbourhood.{Neighbourhood}
use Rattle.vr_model.specs.declared.neighbours.Move.{Move}
use Rattle.vr_known.proofs.NestLemmas.{joined_opens, range_split}
use Rattle.vr_known.specs.Blocks.{Memory, covers, is_known, first_of, second_of}
use Rattle.vr_known.specs.Nests.{joined_of, run_of}
use Rattle.vr_known.specs.declared.blocks.Block.{Block}
use Rattle.vr_known.specs.Passing.{capped, ArePassed, CoversBlock, IsBlockOf, Passes, IsFirst, Takes}

pub capped_small : (n : ℕ) → n < 2 ^ 64 → n ≡ capped n
capped_small n low = Prim.grind arith

capped_twice : (a b : ℕ) → capped (capped a + b) ≡ capped (a + b)
capped_twice a b = Prim.grind arith

module _ (covers : Move → Type 0) where
  -- no move was passed
  pub passes_none : (old : List Move) (count : ℕ) → count < 2 ^ 64 → Passes covers old count old count
  passes_none old count low =
      record { passed = []; split = refl; covered = All-nil covers; counts = capped_small count low ∙ ap capped (let e : count ≡ count + 0 = omega arith in e) }

  -- all of them were
  pub passes_all : (old : List Move) (count many counted : ℕ) → ArePassed covers old many
      → counted ≡ min (count + many) (2 ^ 64 - 1) → Passes covers old count [] counted
  passes_all old count many counted h e =
      record { passed = old; split = sym (append-nil old); covered = h.covered; counts = e ∙ ap (λ n. capped (count + n)) (sym h.long) }

  -- more of them were passed
  pub passes_more : (a b c : List Move) (i j k : ℕ) → Passes covers a i b j → Passes covers b j c k → Passes covers a i c k
  passes_more a b c i j k p q = record {
    passed = p.passed ++ q.passed;
    split = p.split ∙ ap (λ l. p.passed ++ l) q.split ∙ sym (append_assoc p.passed q.passed c);
    covered = All-append covers p.passed q.passed p.covered q.covered;
    counts = q.counts ∙ ap (λ n. capped (n + length q.passed)) p.counts ∙ capped_twice (i + length p.passed) (length q.passed)
        ∙ ap capped (sum i (length p.passed) (length q.passed) ∙ ap (λ n. i + n) (sym (length-append p.passed q.passed)));
  }
    where
      sum : (x y z : ℕ) → (x + y) + z ≡ x + (y + z)
      sum x y z = omega arith

  -- moves stand behind
  pub passes_in_front : (a b more : List Move) (i j : ℕ) → Passes covers a i b j → Passes covers (a ++ more) i (b ++ more) j
  passes_in_front a b more i j p =
      record { passed = p.passed; split = ap (λ l. l ++ more) p.split ∙ append_assoc p.passed b more; covered = p.covered; counts = p.counts }

  -- the lists are the same
  pub passes_as : (a b c : List Move) (i j : ℕ) → b ≡ c → Passes covers a i b j → Passes covers a i c j
  passes_as a b c i j e p = record { passed = p.passed; split = p.split ∙ ap (λ l. p.passed ++ l) e; covered = p.covered; counts = p.counts }

  pub passes_from : (a b c : List Move) (i j : ℕ) → a ≡ c → Passes covers a i b j → Passes covers c i b j
  passes_from a b c i j e p = record { passed = p.passed; split = sym e ∙ p.split; covered = p.covered; counts = p.counts }

  -- a move is taken behind those that were passed
  pub takes_some : (a b c : List Move) (i j k : ℕ) (mv : Move) → Passes covers a i b j → Takes covers b j (Some mv) c k → Takes covers a i (Some mv) c k
  takes_some a b c i j k mv p t = record { behind = t.behind; passes = passes_more a b t.behind i j k p t.passes; first = t.first }

  pub takes_none : (a : List Move) (i j : ℕ) → Passes covers a i [] j → Takes covers a i None [] j
  takes_none a i j p = record { behind = []; passes = p; first = (refl, refl) }

  pub takes_first : (a b : List Move) (i : ℕ) (result : Option Move) → i < 2 ^ 64 → IsFirst a result b → Takes covers a i result b i
  takes_first a b i result low first = record { behind = a; passes = passes_none a i low; first = first }

  -- the first of some moves, in front of others
  pub takes_in_front : (a b more : List Move) (i j : ℕ) (mv : Move) → Takes covers a i (Some mv) b j → Takes covers (a ++ more) i (Some mv) (b ++ more) j
  takes_in_front a b more i j mv t =
      record { behind = t.behind ++ more; passes = passes_in_front a t.behind more i j t.passes; first = ap (λ l. l ++ more) t.first }

  -- none of the moves is left
  pub passes_to_end : (a b : List Move) (i j : ℕ) → Takes covers a i None b j → Passes covers a i [] j
  passes_to_end a b i j t = passes_as a t.behind [] i j t.first.0 t.passes

  -- ---- moves of a run that are passed over

  -- moves of which each number's is covered
  run_covered : (p : ℕ → Bool) (f : ℕ → Move) (a n : ℕ) → ((k : ℕ) → a ≤ k → k < a + n → covers (f k)) → All covers (map f (filter p (range_with_len a n)))
  run_covered p f a zero h = All-nil covers
  run_covered p f a (suc n) h = by (p a) (run_covered p f (a + 1) n (λ k low high. h k (omega (arith, low)) (omega (arith, high))))
    where
      by : (t : Bool) → All covers (map f (filter p (range_with_len (a + 1) n)))
          → All covers (map f (cond t (a ∷ filter p (range_with_len (a + 1) n)) (filter p (range_with_len (a + 1) n))))
      by true others = All-cons covers (f a) (map f (filter p (range_with_len (a + 1) n))) (h a (omega arith) (omega arith)) others
      by false others = others

  -- the moves of the numbers from a on, below m, were passed
  pub passes_run : (p : ℕ → Bool) (f : ℕ → Move) (a m b count many counted : ℕ) → a ≤ m → m ≤ b → ((k : ℕ) → a ≤ k → k < m → covers (f k))
      → many ≡ length (filter p (from_to a m)) → counted ≡ min (count + many) (2 ^ 64 - 1)
      → Passes covers (run_of p f a b) count (run_of p f m b) counted
  passes_run p f a m b count many counted order within each number counts = record {
    passed = run_of p f a m;
    split = ap (λ l. map f (filter p l)) (range_split a m b order within)
        ∙ ap (map f) (filter-append p (from_to a m) (from_to m b)) ∙ map-append f (filter p (from_to a m)) (filter p (from_to m b));
    covered = run_covered p f a (m - a) (λ k low high. each k low (omega (arith, high, order)));
    counts = counts ∙ ap (λ n. capped (count + n)) (number ∙ sym (length-map (filter p (from_to a m)) f));
  }

  -- all moves of a run stand in a block that is covered
  pub run_passed : (p : ℕ → Bool) (f : ℕ → Move) (a b many : ℕ) (block : Block) → IsBlockOf block f
      → CoversBlock covers block.neighbourhood block.row block.vehicle → many ≡ length (filter p (from_to a b))
      → ArePassed covers (run_of p f a b) many
  run_passed p f a b many block stands known number = record {
    covered = run_covered p f a (b - a) (λ k low high. known (f k) (stands.kind k) (stands.first k) (stands.second k));
    long = length-map (filter p (from_to a b)) f ∙ sym number;
  }

-- a count that stops at the greatest number fits
capped_fits : (count n : ℕ) → count ≡ capped n → count < 2 ^ 64
capped_fits count n e = Prim.grind (arith, e)

-- ---- joined lists that are opened one after the other

module _ (covers : Move → Type 0) (passes : ℕ → Bool) (moves : ℕ → List Move) (a b : ℕ) (low : a < b) (opened : List Move)
    (is : opened ≡ cond (passes a) (moves a) []) {old : List Move} {start count : ℕ} (before : Passes covers old start (joined_of passes moves a b) count) where
  -- the first of them is in hand
  pub passes_opened : Passes covers old start (opened ++ joined_of passes moves (a + 1) b) count
  passes_opened =
      passes_more covers old _ _ start count count before
      (passes_from covers _ _ _ count count (joined_opens passes moves a b opened low is)
      (passes_none covers (opened ++ joined_of passes moves (a + 1) b) count (capped_fits count _ before.counts)))

  -- all of its moves were passed
  pub passes_beyond : (many counted : ℕ) → ArePassed covers opened many
      → counted ≡ min (count + many) (2 ^ 64 - 1) → Passes covers old start (joined_of passes moves (a + 1) b) counted
  passes_beyond many counted passed counts =
      passes_more covers old _ _ start count counted before
      (passes_from covers _ _ _ count counted (joined_opens passes moves a b opened low is)
      (passes_in_front covers opened [] (joined_of passes moves (a + 1) b) count counted (passes_all covers opened count many counted passed counts)))

-- what is told of the moves in front of a number, where one is told
pub told_of_each : (P Q : ℕ → Type 0) → ((k : ℕ) → P k → Q k) → (from : ℕ) (told : Option ℕ)
    → IfSome told (λ first. (k : ℕ) → from ≤ k → k < first → P k) → IfSome told (λ first. (k : ℕ) → from ≤ k → k < first → Q k)
told_of_each P Q so from None each = tt
told_of_each P Q so from (Some first) each = λ k low high. so k (each k low high)

-- ---- where nothing is covered, no move is passed

pub none_passed : (covers : Move → Type 0) → ((mv : Move) → covers mv → ⊥) → (moves : List Move) → All covers moves → moves ≡ []
none_passed covers none [] covered = refl
none_passed covers none (mv ∷ moves) covered = absurd (none mv (All-head covers mv moves covered))

pub takes_unknown : (covers : Move → Type 0) → ((mv : Move) → covers mv → ⊥) → (old left : List Move) (count counted : ℕ) (result : Option Move)
    → Takes covers old count result left counted → IsFirst old result left
takes_unknown covers none old left count counted result t =
    subst (λ l. IsFirst l result left) (sym (t.passes.split ∙ ap (λ l. l ++ t.behind) (none_passed covers none t.passes.passed t.passes.covered))) t.first

-- nothing is covered where nothing is known
pub covers_none : (memory : Memory) → ((kind : Neighbourhood) (v w : ℕ) → is_known memory kind v w ≡ false) → (mv : Move) → IsTrue (covers memory mv) → ⊥
covers_none memory none mv covered = clash (is_known memory (kind_of mv) (first_of mv) (second_of mv)) covered (none (kind_of mv) (first_of mv) (second_of mv))

-- the moves of a block that is known are covered
pub covers_known : (memory : Memory) (kind : Neighbourhood) (v w : ℕ)
    → IsTrue (is_known memory kind v w) → CoversBlock (λ mv. IsTrue (covers memory mv)) kind v w
covers_known memory kind v w known mv k f s =
    subst (λ n. IsTrue (is_known memory n (first_of mv) (second_of mv))) (sym k)
    (subst (λ n. IsTrue (is_known memory kind n (second_of mv))) (sym f) (subst (λ n. IsTrue (is_known memory kind v n)) (sym s) known))
