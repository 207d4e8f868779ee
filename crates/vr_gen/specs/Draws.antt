-- The numbers that are drawn for a model: the places of its nodes, and when and how much its customers want.
use Rattle.std.specs.Prelude.{ℕ, zero, suc, ◌+◌, ◌%◌, List, [], ◌∷◌}
use Rattle.rand_core.specs.Pcg32Seed.{pcg32_seed}
use Rattle.rand_pcg.specs.Lcg.{Lcg}
use Rattle.rand_pcg.specs.Pcg.{pcg32, pcg32_of_seed}
use Rattle.vr_gen.specs.declared.draws.Site.{Site}
use Rattle.vr_gen.specs.declared.draws.Customer.{Customer}

-- the generator of words of a number
abbrev pub words_of : ℕ → Lcg
words_of number = pcg32_of_seed (pcg32_seed 16 number)

-- the next word modulo k, and the generator after it
abbrev pub draw : ℕ → Lcg → ℕ × Lcg
draw k words = ((pcg32 words).0 % k, (pcg32 words).1)

-- a site: two numbers below 1000
abbrev pub site : Lcg → Site × Lcg
site words =
    let x = draw 1000 words in
    let y = draw 1000 x.1 in
    (record { x = x.0; y = y.0 }, y.1)

-- a customer: the begin of its window, below 8000, and its demand, in 1..=9
abbrev pub customer : Lcg → Customer × Lcg
customer words =
    let lo = draw 8000 words in
    let demand = draw 9 lo.1 in
    (record { lo = lo.0; demand = 1 + demand.0 }, demand.1)

-- what is drawn n times in a row
abbrev pub repeated : {A : Type 0} → (Lcg → A × Lcg) → ℕ → Lcg → List A × Lcg
repeated next zero words = ([], words)
repeated next (suc n) words =
    let first = next words in
    let rest = repeated next n first.1 in
    (first.0 ∷ rest.0, rest.1)

-- the sites of the 61 nodes
abbrev pub drawn_sites : ℕ → List Site × Lcg
drawn_sites number = repeated site 61 (words_of number)

-- the customers of nodes 1 to 60, drawn after the sites
abbrev pub customers : ℕ → List Customer
customers number = (repeated customer 60 (drawn_sites number).1).0
