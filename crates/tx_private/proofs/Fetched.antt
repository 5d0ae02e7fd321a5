-- The fetch of the next instruction of a run, by storage in the order of the CPU's real addresses.
use Rattle.std.proofs.Common.{◌≡◌, ℕ, zero, suc, ◌+◌, ◌%◌, ◌<◌, ◌≤◌, Bool, true, false, List}
use Rattle.std.proofs.Common.{[], ◌∷◌}
use Rattle.std.proofs.Common.{Option, Some, None, refl, sym, ap, subst, ◌∙◌, arith, length, get_or, take}
use Rattle.std.proofs.Common.{drop}
use Rattle.std.proofs.Common.{inl, inr, ◌⊎◌, lit<}
use Rattle.std.specs.Prelude.{map, nat_eq, if◌then◌else◌, Ok, Err}
use Rattle.std.proofs.lemmas.Bool.{cases_lt}
use Rattle.z_regs.specs.Prefix.{storage_size, is_prefix, absolute_of}
use Rattle.z_regs.proofs.Exchange.{seen_at, length-seen, absolute_within}
use Rattle.z_instr.specs.Layout.{length_by}
use Rattle.z_instr.specs.Operands.{from_up, specification, operation}
use Rattle.z_instr.specs.Access.{accessible_pages, text_pages, byte_unfetched, first_some, unfetched}
use Rattle.z_touch.proofs.Fetches.{beyond_storage}
use Rattle.tx_serial.specs.Flat.{bytes_of, bytes_seen}
use Rattle.tx_serial.specs.Attempt.{Run}
use Rattle.tx_serial.specs.Fate.{Excepts, fate, fate_by, fate_after, fetch_refusal, instruction_at, length_at}
use Rattle.tx_control.specs.declared.exceptions.Exception.{Exception}
use Rattle.z_touch.specs.Refusals.{fetch_answer, at_fetch}
use Rattle.z_regs.specs.Cpu.{Cpu}
use Rattle.z_instr.specs.declared.instr.Instr.{Instr}
use Rattle.z_instr.specs.Computing.{reading_of}
use Rattle.tx_serial.proofs.Frame.{blocked, no_wrong}
use Rattle.tx_serial.proofs.Listed.{bytes_below_at, taken}
use Rattle.tx_private.specs.Reading.{IsCopy}
use Rattle.tx_private.proofs.Laid.{length-bytes}
use Rattle.z_instr.proofs.Distinct.{some_length}

pub copy_size : (seen : List ℕ) (p : Run) → is_prefix p.cpu.prefix ≡ true → IsCopy seen p
    → length seen ≡ storage_size
copy_size seen p ok copy =
    ap (λ (s : List ℕ). length s) copy ∙ length-seen p.cpu.prefix (bytes_of p.copy) ok (length-bytes p.copy)

pub seen_byte : (seen : List ℕ) (p : Run) (x : ℕ) → is_prefix p.cpu.prefix ≡ true → IsCopy seen p
    → x < storage_size → get_or seen x 0 ≡ p.copy (absolute_of p.cpu.prefix x)
seen_byte seen p x ok copy within =
    ap (λ s. get_or s x 0) copy
    ∙ seen_at p.cpu.prefix (bytes_of p.copy) x ok (length-bytes p.copy) within
    ∙ bytes_below_at storage_size p.copy (absolute_of p.cpu.prefix x) (absolute_within p.cpu.prefix x ok
    within)

-- a byte that can be fetched lies in storage
fetched_low : (prefix : Option ℕ) (pages : List ℕ) (a : ℕ)
    → byte_unfetched (accessible_pages prefix) pages a ≡ None → (a < 1048576) ⊎ (1048576 ≤ a) → a < 1048576
fetched_low prefix pages a h (inl low) = low
fetched_low prefix pages a h (inr high) =
    let some = beyond_storage prefix pages a 1 high (let e : 0 < 1 = omega arith in e) in
    let none = ap (λ o. first_some (o ∷ [])) h in
    absurd (cc (some, none))

-- ---- the number of bytes

by_first : (text : List ℕ) (seen : List ℕ) (p : Run) (b : ℕ) (o : Option ℕ) → is_prefix p.cpu.prefix ≡ true
    → IsCopy seen p → (p.cpu.address < storage_size → b ≡ get_or seen p.cpu.address 0)
    → byte_unfetched (accessible_pages p.cpu.prefix) (text_pages p.cpu.prefix text) p.cpu.address ≡ o
    → fetch_refusal text p
    ≡ unfetched (accessible_pages p.cpu.prefix) (text_pages p.cpu.prefix text) p.cpu.address (length_by b)
by_first text seen p b (Some code) ok copy first e =
    let acc = accessible_pages p.cpu.prefix in
    let pages = text_pages p.cpu.prefix text in
    blocked acc pages p.cpu.address (p.copy (absolute_of p.cpu.prefix p.cpu.address)) code e
    ∙ sym (blocked acc pages p.cpu.address b code e)
by_first text seen p b None ok copy first e =
    let acc = accessible_pages p.cpu.prefix in
    let pages = text_pages p.cpu.prefix text in
    let low = fetched_low p.cpu.prefix pages p.cpu.address e (cases_lt p.cpu.address 1048576) in
    ap (λ x. unfetched acc pages p.cpu.address (length_by x))
    (sym (seen_byte seen p p.cpu.address ok copy low) ∙ sym (first low))

pub same_fetch : (text : List ℕ) (seen : List ℕ) (p : Run) (b : ℕ) → is_prefix p.cpu.prefix ≡ true
    → IsCopy seen p → (p.cpu.address < storage_size → b ≡ get_or seen p.cpu.address 0)
    → fetch_refusal text p
    ≡ unfetched (accessible_pages p.cpu.prefix) (text_pages p.cpu.prefix text) p.cpu.address (length_by b)
same_fetch text seen p b ok copy first =
    by_first text seen p b
    (byte_unfetched (accessible_pages p.cpu.prefix) (text_pages p.cpu.prefix text) p.cpu.address) ok copy
    first refl

-- ---- the bytes

head_open : (o : Option ℕ) (rest : List (Option ℕ)) → first_some (o ∷ rest) ≡ None → o ≡ None
head_open None rest h = refl
head_open (Some code) rest h = absurd (cc)

rest_open : (o : Option ℕ) (rest : List (Option ℕ)) → first_some (o ∷ rest) ≡ None → first_some rest ≡ None
rest_open None rest h = h
rest_open (Some code) rest h = absurd (cc)

each_open : (f : ℕ → Option ℕ) (n a k : ℕ) → k < n → first_some (map f (from_up a n)) ≡ None
    → f (a + k) ≡ None
each_open f zero a k h clear = absurd (omega (arith, h))
each_open f (suc n) a zero h clear =
    ap f (let e : a + 0 ≡ a = omega arith in e) ∙ head_open (f a) (map f (from_up (suc a) n)) clear
each_open f (suc n) a (suc k) h clear =
    ap f (let e : a + suc k ≡ suc a + k = omega arith in e)
    ∙ each_open f n (suc a) k (let e : k < n = omega (arith, h) in e)
    (rest_open (f a) (map f (from_up (suc a) n)) clear)

-- all bytes of an instruction that can be fetched lie in storage
pub fetched_inside : (prefix : Option ℕ) (pages : List ℕ) (a n : ℕ) → 0 < n
    → unfetched (accessible_pages prefix) pages a n ≡ None → a + n ≤ 1048576
unfolding unfetched
fetched_inside prefix pages a zero some h = absurd (omega (arith, some))
fetched_inside prefix pages a (suc m) some h =
    let last = each_open (byte_unfetched (accessible_pages prefix) pages) (suc m) a m
    (let e : m < suc m = omega arith in e) (no_wrong (nat_eq (a % 2) 1) specification _ h) in
    let low = fetched_low prefix pages (a + m) last (cases_lt (a + m) 1048576) in
    omega (arith, low)

pub fetched_bytes : (seen : List ℕ) (p : Run) (n : ℕ) → is_prefix p.cpu.prefix ≡ true → IsCopy seen p
    → p.cpu.address + n ≤ storage_size
    → take n (drop p.cpu.address seen) ≡ bytes_seen p.cpu.prefix p.copy p.cpu.address n
fetched_bytes seen p n ok copy room =
    let size = copy_size seen p ok copy in
    taken n p.cpu.address seen (λ x. p.copy (absolute_of p.cpu.prefix x))
    (λ x h. seen_byte seen p x ok copy (subst (λ m. x < m) size h))
    (subst (λ m. p.cpu.address + n ≤ m) (sym size) room)

-- an instruction has 2, 4 or 6 bytes
some_by : (x y : Bool) → 0 < (if x then 2 else if y then 4 else 6)
some_by true y = lit< tt
some_by false true = lit< tt
some_by false false = lit< tt

-- ---- what is read

pub goes_on : (o : Option ℕ) → Ok tt ≡ fetch_answer o → o ≡ None
goes_on None h = refl
goes_on (Some code) h = absurd (cc)

refused_by : (text : List ℕ) (p : Run) (o : Option ℕ) (e : Exception) → Err e ≡ fetch_answer o
    → fate_by text p o (instruction_at p) ≡ fate_after p.nest (Excepts e)
refused_by text p None e h = absurd (cc)
refused_by text p (Some code) e h =
    ap (λ x. fate_after p.nest (Excepts x)) (let same : at_fetch code ≡ e = cc in same)

refused_here : (text seen : List ℕ) (p : Run) (b : ℕ) (e : Exception) → is_prefix p.cpu.prefix ≡ true
    → IsCopy seen p → (p.cpu.address < storage_size → b ≡ get_or seen p.cpu.address 0)
    → Err e ≡ fetch_answer (unfetched (accessible_pages p.cpu.prefix) (text_pages p.cpu.prefix text)
    p.cpu.address
    (length_by b))
    → fate text p ≡ fate_after p.nest (Excepts e)
unfolding fate
refused_here text seen p b e ok copy first h =
    ap (λ o. fate_by text p o (instruction_at p)) (same_fetch text seen p b ok copy first)
    ∙ refused_by text p (unfetched (accessible_pages p.cpu.prefix) (text_pages p.cpu.prefix text)
    p.cpu.address
    (length_by b)) e h

pub refused_fate : (text seen : List ℕ) (p : Run) (c : Cpu) (b : ℕ) (e : Exception) → p.cpu ≡ c
    → IsCopy seen p → is_prefix c.prefix ≡ true → (c.address < storage_size → b ≡ get_or seen c.address 0)
    → Err e ≡ fetch_answer (unfetched (accessible_pages c.prefix) (text_pages c.prefix text) c.address
    (length_by b))
    → fate text p ≡ fate_after p.nest (Excepts e)
refused_fate text seen p c b e same copy =
    subst (λ (d : Cpu). is_prefix d.prefix ≡ true → (d.address < storage_size → b ≡ get_or seen d.address 0)
    → Err e ≡ fetch_answer (unfetched (accessible_pages d.prefix) (text_pages d.prefix text) d.address
    (length_by b))
    → fate text p ≡ fate_after p.nest (Excepts e)) same
    (λ ok first h. refused_here text seen p b e ok copy first h)

-- the length, and what the bytes read as
length_here : (text seen : List ℕ) (p : Run) (b : ℕ) → is_prefix p.cpu.prefix ≡ true → IsCopy seen p
    → (p.cpu.address < storage_size → b ≡ get_or seen p.cpu.address 0) → p.cpu.address < storage_size
    → length_at p ≡ length_by b
length_here text seen p b ok copy first low =
    ap length_by (sym (seen_byte seen p p.cpu.address ok copy low) ∙ sym (first low))

read_here : (text seen : List ℕ) (p : Run) (b : ℕ) → is_prefix p.cpu.prefix ≡ true → IsCopy seen p
    → (p.cpu.address < storage_size → b ≡ get_or seen p.cpu.address 0)
    → p.cpu.address + length_by b ≤ storage_size
    → instruction_at p ≡ reading_of (take (length_by b) (drop p.cpu.address seen))
read_here text seen p b ok copy first room =
    let some = some_length b in
    let low : p.cpu.address < storage_size = omega (arith, some, room) in
    ap (λ n. reading_of (bytes_seen p.cpu.prefix p.copy p.cpu.address n)) (length_here text seen p b ok copy
    first low)
    ∙ ap reading_of (sym (fetched_bytes seen p (length_by b) ok copy room))

found_here : (text seen : List ℕ) (p : Run) (b : ℕ) (o : Option Instr) → is_prefix p.cpu.prefix ≡ true
    → IsCopy seen p → (p.cpu.address < storage_size → b ≡ get_or seen p.cpu.address 0)
    → unfetched (accessible_pages p.cpu.prefix) (text_pages p.cpu.prefix text) p.cpu.address (length_by b)
    ≡ None
    → o ≡ reading_of (take (length_by b) (drop p.cpu.address seen))
    → (fetch_refusal text p ≡ None) × (instruction_at p ≡ o)
found_here text seen p b o ok copy first clear reads =
    let room = fetched_inside p.cpu.prefix (text_pages p.cpu.prefix text) p.cpu.address (length_by b)
    (some_length b)
    clear in
    (same_fetch text seen p b ok copy first ∙ clear, read_here text seen p b ok copy first room ∙ sym reads)

pub found : (text seen : List ℕ) (p : Run) (c : Cpu) (b : ℕ) (o : Option Instr) → p.cpu ≡ c
    → IsCopy seen p → is_prefix c.prefix ≡ true → (c.address < storage_size → b ≡ get_or seen c.address 0)
    → unfetched (accessible_pages c.prefix) (text_pages c.prefix text) c.address (length_by b) ≡ None
    → o ≡ reading_of (take (length_by b) (drop c.address seen))
    → (fetch_refusal text p ≡ None) × (instruction_at p ≡ o)
found text seen p c b o same copy =
    subst (λ (d : Cpu). is_prefix d.prefix ≡ true → (d.address < storage_size → b ≡ get_or seen d.address 0)
    → unfetched (accessible_pages d.prefix) (text_pages d.prefix text) d.address (length_by b) ≡ None
    → o ≡ reading_of (take (length_by b) (drop d.address seen))
    → (fetch_refusal text p ≡ None) × (instruction_at p ≡ o)) same
    (λ ok first clear reads. found_here text seen p b o ok copy first clear reads)

unreadable_here : (text seen : List ℕ) (p : Run) (b : ℕ) → is_prefix p.cpu.prefix ≡ true
    → IsCopy seen p → (p.cpu.address < storage_size → b ≡ get_or seen p.cpu.address 0)
    → unfetched (accessible_pages p.cpu.prefix) (text_pages p.cpu.prefix text) p.cpu.address (length_by b)
    ≡ None
    → None ≡ reading_of (take (length_by b) (drop p.cpu.address seen))
    → fate text p ≡ fate_after p.nest (Excepts record {
      code = operation;
      fetch = false;
      length = length_by b;
    })
unfolding fate
unreadable_here text seen p b ok copy first clear reads =
    let here = found_here text seen p b None ok copy first clear reads in
    let room = fetched_inside p.cpu.prefix (text_pages p.cpu.prefix text) p.cpu.address (length_by b)
    (some_length b)
    clear in
    let some = some_length b in
    let low : p.cpu.address < storage_size = omega (arith, some, room) in
    ap (λ u. fate_by text p u (instruction_at p)) here.0
    ∙ ap (fate_by text p None) here.1
    ∙ ap (λ n. fate_after p.nest (Excepts record { code = operation; fetch = false; length = n }))
    (length_here text seen p b ok copy first low)

pub unreadable_fate : (text seen : List ℕ) (p : Run) (c : Cpu) (b : ℕ) → p.cpu ≡ c
    → IsCopy seen p → is_prefix c.prefix ≡ true → (c.address < storage_size → b ≡ get_or seen c.address 0)
    → unfetched (accessible_pages c.prefix) (text_pages c.prefix text) c.address (length_by b) ≡ None
    → None ≡ reading_of (take (length_by b) (drop c.address seen))
    → fate text p ≡ fate_after p.nest (Excepts record {
      code = operation;
      fetch = false;
      length = length_by b;
    })
unreadable_fate text seen p c b same copy =
    subst (λ (d : Cpu). is_prefix d.prefix ≡ true → (d.address < storage_size → b ≡ get_or seen d.address 0)
    → unfetched (accessible_pages d.prefix) (text_pages d.prefix text) d.address (length_by b) ≡ None
    → None ≡ reading_of (take (length_by b) (drop d.address seen))
    → fate text p ≡ fate_after p.nest (Excepts record {
      code = operation;
      fetch = false;
      length = length_by b;
    })) same
    (λ ok first clear reads. unreadable_here text seen p b ok copy first clear reads)
