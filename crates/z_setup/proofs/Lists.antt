-- The steps of the loops over plain lists, and a CPU changed.
use Rattle.std.proofs.Common.{◌≡◌, ℕ, zero, suc, ◌+◌, ◌<◌, ◌≤◌, Bool, true, false, ◌||◌, List, [], ◌∷◌}
use Rattle.std.proofs.Common.{length, map, drop, get_or, refl, sym, ap, ◌∙◌, arith}
use Rattle.std.proofs.Math.ListN.{set}
use Rattle.std.proofs.lemmas.Grind.{common_steps}
use Rattle.std.proofs.lemmas.List.{drop_all}
use Rattle.std.specs.List.{list_any}
use Rattle.z_regs.specs.Cpu.{Cpu, cpu_of}
use Rattle.z_regs.specs.declared.image.CpuImage.{CpuImage}
use Rattle.z_setup.specs.Machine.{change_at}
use Rattle.z_fields.proofs.Loops.{drop_here}

pub any_true : {X : Type 0} (q : X → Bool) (xs : List X) (i : ℕ) (d : X) → i < length xs →
    q (get_or xs i d) ≡ true → list_any q (drop i xs) ≡ true
any_true q xs i d h e = ap (list_any q) (drop_here xs i d h) ∙ ap (λ b. b || list_any q (drop (i + 1) xs)) e

pub any_here : {X : Type 0} (q : X → Bool) (xs : List X) (i : ℕ) (x : X) → i < length xs → x ≡ get_or xs i x →
    q x ≡ true → list_any q (drop i xs) ≡ true
any_here q xs i x h is e = any_true q xs i x h (ap q (sym is) ∙ e)

pub any_false : {X : Type 0} (q : X → Bool) (xs : List X) (i : ℕ) (d : X) → i < length xs →
    q (get_or xs i d) ≡ false → list_any q (drop (i + 1) xs) ≡ list_any q (drop i xs)
any_false q xs i d h e = sym (ap (list_any q) (drop_here xs i d h)
    ∙ ap (λ b. b || list_any q (drop (i + 1) xs)) e)

pub any_over : {X : Type 0} (q : X → Bool) (xs : List X) (i : ℕ) → length xs ≤ i →
    list_any q (drop i xs) ≡ false
any_over q xs i h = ap (list_any q) (drop_all i xs h)

pub any_map : {X Y : Type 0} (q : Y → Bool) (f : X → Y) (xs : List X) →
    list_any q (map f xs) ≡ list_any (λ x. q (f x)) xs
any_map q f [] = refl
any_map q f (x ∷ xs) = ap (λ b. q (f x) || b) (any_map q f xs)

pub ruleset any_steps = (any_true, any_false, any_over, common_steps)

-- ---- a CPU changed

pub changed : (f : Cpu → Cpu) (xs : List CpuImage) (i : ℕ) (d v : CpuImage) → i < length xs →
    cpu_of v ≡ f (cpu_of (get_or xs i d)) →
    map cpu_of (set xs i v) ≡ change_at i f (map cpu_of xs)
changed f [] i d v h e = absurd (omega arith)
changed f (x ∷ xs) zero d v h e = ap (λ c. c ∷ map cpu_of xs) e
changed f (x ∷ xs) (suc i) d v h e = ap (λ cs. cpu_of x ∷ cs) (changed f xs i d v (omega arith) e)

pub unchanged : (f : Cpu → Cpu) (xs : List CpuImage) (i : ℕ) → length xs ≤ i →
    map cpu_of xs ≡ change_at i f (map cpu_of xs)
unchanged f [] i h = refl
unchanged f (x ∷ xs) zero h = absurd (omega arith)
unchanged f (x ∷ xs) (suc i) h = ap (λ cs. cpu_of x ∷ cs) (unchanged f xs i (omega arith))

pub ruleset change_steps = (changed, unchanged, common_steps)
