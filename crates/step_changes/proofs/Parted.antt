-- Parts of CPUs that are put, and come back.
use Rattle.std.proofs.Common.{◌≡◌, ℕ, zero, suc, ◌+◌, ◌<◌, ◌≤◌, List, [], ◌∷◌, ◌++◌, length, get_or, refl, sym, ap}
use Rattle.std.proofs.Common.{subst, ◌∙◌, arith, append_assoc, append-nil}
use Rattle.std.specs.Prelude.{slice_set}
use Rattle.std.proofs.lemmas.Bool.{cases_lt}
use Rattle.std.proofs.lemmas.List.{set-get_or, get_or-set_same, get_or-set_other}
use borrow.Enum.Arm.{by_way}
use Rattle.step_changes.specs.Changes.{Leads, Adds}
use Rattle.step_changes.specs.Parts.{AddsAt, put_part, with_part, with_general, with_access}
use Rattle.step_changes.specs.Seen.{CpuSeen}
use Rattle.step_changes.specs.declared.changes.Change.{Change}
use Rattle.step_changes.specs.declared.parts.Part.{Part}
use Rattle.step_changes.specs.declared.parts.Part.TheVariants as part
use Rattle.step_changes.specs.declared.parts.Register.{Register}
use Rattle.step_changes.proofs.Changed.{adds_nothing, leads_nowhere, leads_one, leads_on, set_same, set_twice}

-- a part is put into the CPU at the place
pub put_there : (table : List CpuSeen) (at : ℕ) (d : CpuSeen) (p : Part) → at < length table
    → slice_set table at (with_part (get_or table at d) p) ≡ put_part table at p
unfolding put_part
put_there [] at d p low = absurd (omega arith)
put_there (c ∷ rest) zero d p low = refl
put_there (c ∷ rest) (suc at) d p low = ap (λ l. c ∷ l) (put_there rest at d p (omega arith))

pub put_past : (table : List CpuSeen) (at : ℕ) (p : Part) → length table ≤ at → put_part table at p ≡ table
unfolding put_part
put_past [] at p past = refl
put_past (c ∷ rest) zero p past = absurd (omega arith)
put_past (c ∷ rest) (suc at) p past = ap (λ l. c ∷ l) (put_past rest at p (omega arith))

-- into one that has just been written
pub put_written : (table : List CpuSeen) (at : ℕ) (c : CpuSeen) (p : Part) → at < length table
    → put_part (slice_set table at c) at p ≡ slice_set table at (with_part c p)
unfolding put_part
put_written [] at c p low = absurd (omega arith)
put_written (x ∷ rest) zero c p low = refl
put_written (x ∷ rest) (suc at) c p low = ap (λ l. x ∷ l) (put_written rest at c p (omega arith))

-- a register comes back with the value that it had
list_back : (registers : List ℕ) (n value old : ℕ) → get_or registers n 0 ≡ old
    → slice_set (slice_set registers n value) n old ≡ registers
list_back registers n value old is =
    set_twice registers n value old ∙ ap (slice_set registers n) (sym is) ∙ set-get_or registers n 0

pub general_back : (c : CpuSeen) (p : Part) (r : Register) (value old : ℕ) → p ≡ part.General r value
    → get_or c.cpu.general r.number 0 ≡ old → with_part (with_part c p) (part.General r old) ≡ c
general_back c p r value old is had =
    ap (λ q. with_part (with_part c q) (part.General r old)) is
    ∙ ap (with_general c) (list_back c.cpu.general r.number value old had)

pub access_back : (c : CpuSeen) (p : Part) (r : Register) (value old : ℕ) → p ≡ part.Access r value
    → get_or c.cpu.access r.number 0 ≡ old → with_part (with_part c p) (part.Access r old) ≡ c
access_back c p r value old is had =
    ap (λ q. with_part (with_part c q) (part.Access r old)) is
    ∙ ap (with_access c) (list_back c.cpu.access r.number value old had)

-- ---- registers one after the other

-- one more is that of another list
pub register_more : (xs ys : List ℕ) (n : ℕ) → n < length xs
    → ((i : ℕ) → i < n → get_or xs i 0 ≡ get_or ys i 0) → (i : ℕ) → i < n + 1
    → get_or (slice_set xs n (get_or ys n 0)) i 0 ≡ get_or ys i 0
register_more xs ys n within put i low = by_way (cases_lt i n)
    (λ before. get_or-set_other xs n i (get_or ys n 0) 0 (omega arith) ∙ put i before)
    (λ here. let same : i ≡ n = omega arith in
    ap (λ k. get_or (slice_set xs n (get_or ys n 0)) k 0) same ∙ get_or-set_same xs n (get_or ys n 0) 0 within
    ∙ ap (λ k. get_or ys k 0) (sym same))

-- ---- changes of the CPU at a place

pub stays_at : (at : ℕ) (before after : List (Change Part)) (from to : CpuSeen) → after ≡ before → to ≡ from
    → AddsAt at before after from to
stays_at at before after from to is same = record {
  more = [];
  is = is ∙ sym (append-nil before);
  leads =
      λ table low. subst (λ c. Leads put_part (slice_set table at from) [] (slice_set table at c)) (sym same)
      (leads_nowhere put_part (slice_set table at from));
}

-- one part, with which the CPU comes back
pub puts_at : (at : ℕ) (before after : List (Change Part)) (c : Change Part) (from to : CpuSeen) → c.at ≡ at
    → after ≡ before ++ c ∷ [] → to ≡ with_part from c.new → with_part (with_part from c.new) c.old ≡ from
    → AddsAt at before after from to
puts_at at before after c from to here is made again = record {
  more = c ∷ [];
  is = is;
  leads =
      λ table low. leads_one put_part c (slice_set table at from) (slice_set table at to)
      (ap (λ k. put_part (slice_set table at from) k c.new) here
      ∙ put_written table at from c.new low ∙ ap (slice_set table at) (sym made))
      (ap (λ k. put_part (slice_set table at to) k c.old) here
      ∙ put_written table at to c.old low
      ∙ ap (λ x. slice_set table at (with_part x c.old)) made ∙ ap (slice_set table at) again);
}

pub goes_on_at : (at : ℕ) (before mid after : List (Change Part)) (from middle to : CpuSeen)
    → AddsAt at before mid from middle → AddsAt at mid after middle to → AddsAt at before after from to
goes_on_at at before mid after from middle to first second = record {
  more = first.more ++ second.more;
  is = second.is ∙ ap (λ l. l ++ second.more) first.is ∙ append_assoc before first.more second.more;
  leads =
      λ table low. leads_on put_part (slice_set table at from) (slice_set table at middle) (slice_set table at to)
      first.more second.more (first.leads table low) (second.leads table low);
}

-- in a table that has the CPU at the place
pub adds_there : (table : List CpuSeen) (at : ℕ) (before after : List (Change Part)) (from to : CpuSeen)
    → at < length table → from ≡ get_or table at from → AddsAt at before after from to
    → Adds put_part before after table (slice_set table at to)
adds_there table at before after from to low is adds = record {
  more = adds.more;
  is = adds.is;
  leads =
      subst (λ l. Leads put_part l adds.more (slice_set table at to)) (set_same table at from from low (sym is))
      (adds.leads table low);
}

-- ---- CPUs one after the other

-- one more is as a function has it, by changes that are added
pub record IsNoted (seen : CpuSeen) (n : ℕ) (before after : List (Change Part)) (cpus next : List CpuSeen) : Type 0
  where
    pub is : next ≡ slice_set cpus n seen
    pub adds : Adds put_part before after cpus next

pub noted_at : (cpus next : List CpuSeen) (n : ℕ) (before mid after : List (Change Part)) (from to seen : CpuSeen)
    → n < length cpus → from ≡ get_or cpus n from → to ≡ seen → AddsAt n before mid from to
    → next ≡ slice_set cpus n to → after ≡ mid → IsNoted seen n before after cpus next
noted_at cpus next n before mid after from to seen within is to_is adds made all = record {
  is = made ∙ ap (slice_set cpus n) to_is;
  adds =
      subst (λ l. Adds put_part before l cpus next) (sym all)
      (subst (Adds put_part before mid cpus) (sym made) (adds_there cpus n before mid from to within is adds));
}

-- one that is as it was
pub passed_over : (cpus next : List CpuSeen) (n : ℕ) (before after : List (Change Part)) (seen d : CpuSeen)
    → n < length cpus → get_or cpus n d ≡ seen → next ≡ cpus → after ≡ before → IsNoted seen n before after cpus next
passed_over cpus next n before after seen d within is same none = record {
  is = same ∙ sym (set_same cpus n seen d within is);
  adds = adds_nothing put_part before after cpus next none same;
}

module _ (f : ℕ → CpuSeen) (n : ℕ) (cpus next : List CpuSeen) (within : n < length cpus)
    (is : next ≡ slice_set cpus n (f n)) where
  pub seen_more : ((k : ℕ) (d : CpuSeen) → k < n → get_or cpus k d ≡ f k) → (k : ℕ) (d : CpuSeen) → k < n + 1
      → get_or next k d ≡ f k
  seen_more seen k d low = by_way (cases_lt k n)
      (λ before. ap (λ l. get_or l k d) is ∙ get_or-set_other cpus n k (f n) d (omega arith) ∙ seen k d before)
      (λ here. let same : k ≡ n = omega arith in
      ap (λ l. get_or l k d) is ∙ ap (λ j. get_or (slice_set cpus n (f n)) j d) same
      ∙ get_or-set_same cpus n (f n) d within ∙ ap f (sym same))

  pub ahead_more : (first : List CpuSeen)
      → ((k : ℕ) (d : CpuSeen) → n ≤ k → get_or cpus k d ≡ get_or first k d)
      → (k : ℕ) (d : CpuSeen) → n + 1 ≤ k → get_or next k d ≡ get_or first k d
  ahead_more first ahead k d high =
      ap (λ l. get_or l k d) is ∙ get_or-set_other cpus n k (f n) d (omega arith) ∙ ahead k d (omega arith)
