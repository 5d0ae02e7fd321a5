-- The flat state of what is kept of all CPUs, an entry of one of them, and the start.
use Rattle.std.proofs.Common.{◌≡◌, ◌≢◌, ℕ, zero, suc, ◌+◌, ◌<◌, ◌≤◌, Bool, true, false, List, [], ◌∷◌}
use Rattle.std.proofs.Common.{Some, None, refl, sym, ap, subst, ◌∙◌, arith, lit<, length, set, get_or, inl, inr}
use Rattle.std.specs.Prelude.{map, is_none, ◌&&◌, ◌||◌, ◌==◌, if◌then◌else◌, Result, Ok, Err}
use Rattle.std.specs.FinSet.{FinSet, items, contains, empty, insert, contains-empty, contains-insert}
use Rattle.std.specs.Cmp.{nat_cmp_total, unsigned_tied}
use Rattle.std.specs.Ordering.{nat_cmp}
use Rattle.std.proofs.lemmas.List.{length-map, length-set, get_or-map, map-set, get_or-set_same, get_or-set_other, set-get_or}
use Rattle.std.proofs.lemmas.Bool.{cases_lt}
use Rattle.std.proofs.Math.ListN.{get_or-eq_default}
use Rattle.z_regs.specs.Cpu.{Cpu}
use Rattle.z_regs.specs.Prefix.{storage_size}
use Rattle.z_regs.proofs.OneArea.{accessible_within}
use Rattle.tx_journal.specs.Content.{Content}
use Rattle.tx_journal.proofs.Pictures.{agreeing}
use Rattle.tx_journal.specs.Image.{IsImage}
use Rattle.tx_journal.specs.declared.entries.Entry.{Entry}
use Rattle.tx_journal.specs.declared.entries.Entry.TheVariants.{Step, Commit, Abort, Tdb, Interrupt}
use Rattle.tx_serial.specs.Apply.{apply, may_act, is_running}
use Rattle.tx_serial.specs.Changes.{cpu_of_entry}
use Rattle.tx_serial.specs.Flat.{FlatState, Pending, at_put}
use Rattle.tx_serial.specs.History.{start_of, cpu_at, no_cpu}
use Rattle.tx_serial.specs.Text.{IsKept}
use Rattle.tx_serial.proofs.Starting.{start_kept}
use Rattle.tx_serial.proofs.TextKept.{entry_keeps}
use Rattle.tx_private.specs.Bytes.{function_of}
use Rattle.tx_flat.specs.declared.slot.ApplyFault.{ApplyFault}
use Rattle.tx_flat.specs.declared.slot.ApplyFault.TheVariants.{Memory, Misfit}
use Rattle.tx_flat.specs.declared.slot.Block.{Block}
use Rattle.tx_flat.specs.declared.slot.Slot.{Slot}
use Rattle.tx_flat.specs.Machine.{SlotParts, slot_parts, parts_of, fresh, slot_at, state_of, of_cpu}
use Rattle.tx_flat.specs.Machine.{Applies, IsSound}
use Rattle.tx_flat.specs.Slots.{Holds, holding, IsApplied, pending_of}
use Rattle.tx_flat.proofs.Applied.{may_not, no_block, none_waits}
use Rattle.tx_flat.proofs.Aborted.{may_not_abort}
use Rattle.tx_flat.proofs.Stepping.{no_step}

-- ---- the text pages

-- the pages below this one are those of the other set, and no other page is there
pub record CopiedUpTo (guard pages : FinSet nat_cmp) (page : ℕ) : Type 0 where
  pub same : (q : ℕ) → q < page → contains pages q ≡ contains guard q
  pub none : (q : ℕ) → page ≤ q → contains pages q ≡ false
  pub past : 0 < page → (q : ℕ) → 256 ≤ q → contains guard q ≡ false

pub nothing_copied : (guard : FinSet nat_cmp) → CopiedUpTo guard empty 0
nothing_copied guard = record {
  same = λ q h. absurd (omega (arith, h));
  none = λ q h. contains-empty nat_cmp q;
  past = λ h q k. absurd (omega (arith, h));
}

inserted : (pages : FinSet nat_cmp) (page q : ℕ) (b : Bool) → (q == page) ≡ b
    → contains (insert pages page) q ≡ (b || contains pages q)
inserted pages page q b e =
    contains-insert nat_cmp_total pages page q ∙ ap (λ t. t || contains pages q) (unsigned_tied q page ∙ e)

-- a page more
one_page : (guard pages new : FinSet nat_cmp) (page : ℕ) (b : Bool) → contains guard page ≡ b
    → (b ≡ true → new ≡ insert pages page) → (b ≡ false → new ≡ pages) → CopiedUpTo guard pages page
    → ((q : ℕ) → q < page + 1 → contains new q ≡ contains guard q)
    × ((q : ℕ) → page + 1 ≤ q → contains new q ≡ false)
one_page guard pages new page true is there missing before = (
  λ q h. ap (λ s. contains s q) (there refl)
      ∙ elim (cases_lt q page) [
        | inl low ↦ inserted pages page q false (let e : (q == page) ≡ false = grind (arith, low) in e)
            ∙ before.same q low
        | inr high ↦
            let same : q ≡ page = omega (arith, h, high) in
            inserted pages page q true (let e : (q == page) ≡ true = grind (arith, same) in e)
            ∙ sym (ap (contains guard) same ∙ is)
      ],
  λ q h. ap (λ s. contains s q) (there refl)
      ∙ inserted pages page q false (let e : (q == page) ≡ false = grind (arith, h) in e)
      ∙ before.none q (omega (arith, h)),
)
one_page guard pages new page false is there missing before = (
  λ q h. ap (λ s. contains s q) (missing refl)
      ∙ elim (cases_lt q page) [
        | inl low ↦ before.same q low
        | inr high ↦
            let same : q ≡ page = omega (arith, h, high) in
            before.none q high ∙ sym (ap (contains guard) same ∙ is)
      ],
  λ q h. ap (λ s. contains s q) (missing refl) ∙ before.none q (omega (arith, h)),
)

pub page_more : (guard pages new : FinSet nat_cmp) (page : ℕ)
    → (contains guard page ≡ true → new ≡ insert pages page)
    → (contains guard page ≡ false → new ≡ pages)
    → ((q : ℕ) → 256 ≤ q → contains guard q ≡ false) → CopiedUpTo guard pages page
    → CopiedUpTo guard new (page + 1)
page_more guard pages new page there missing past before =
    let both = one_page guard pages new page (contains guard page) refl there missing before in
    record { same = both.0; none = both.1; past = λ h. past }

pub all_copied : (guard pages : FinSet nat_cmp) (page : ℕ) → CopiedUpTo guard pages page → page ≡ 256
    → pages ≡ guard
all_copied guard pages page copied all =
    agreeing pages guard page
    record {
      same = copied.same;
      past = λ some q far.
          copied.none q (omega (arith, far, all)) ∙ sym (copied.past some q far);
    }
    (omega (arith, all))

-- ---- what is kept of one CPU

slot_there : (xs : List Slot) (i : ℕ) (x : Slot) → i < length xs → x ≡ get_or xs i x
    → slot_at (map slot_parts xs) i ≡ slot_parts x
slot_there xs i x within is =
    get_or-map slot_parts xs i x (fresh no_cpu) within ∙ ap slot_parts (sym is)

pub holds_there : (s : List ℕ) (g : FinSet nat_cmp) (xs : List Slot) (i : ℕ) (x : Slot) → i < length xs
    → x ≡ get_or xs i x → Holds (state_of (parts_of s g xs)) i s (items g) x
holds_there s g xs i x within is =
    let e = slot_there xs i x within is in
    record {
      storage = refl;
      text = refl;
      cpu = ap (λ (p : SlotParts). p.cpu) e;
      pending = ap (λ (p : SlotParts). p.pending) e;
      waiting = ap (λ (p : SlotParts). p.waiting) e;
    }

-- and of one that is not there
slot_missing : (xs : List Slot) (i : ℕ) → length xs ≤ i → slot_at (map slot_parts xs) i ≡ fresh no_cpu
slot_missing xs i past =
    get_or-eq_default (map slot_parts xs) (fresh no_cpu)
    (subst (λ n. n ≤ i) (sym (length-map xs slot_parts)) past)

-- another slot in its place
put_slot : (slots : List SlotParts) (i : ℕ) (p : SlotParts) (j : ℕ) (b : Bool) → i < length slots
    → (j == i) ≡ b → slot_at (set slots i p) j ≡ (if b then p else slot_at slots j)
put_slot slots i p j true within e =
    let same : j ≡ i = grind (arith, e) in
    ap (slot_at (set slots i p)) same ∙ get_or-set_same slots i p (fresh no_cpu) within
put_slot slots i p j false within e =
    let other : j ≢ i = λ same. grind (arith, e, same) in
    get_or-set_other slots i j p (fresh no_cpu) other

put_part : {A : Type 0} (part : SlotParts → A) (p q : SlotParts) (b : Bool)
    → (if b then part p else part q) ≡ part (if b then p else q)
put_part part p q true = refl
put_part part p q false = refl

-- so in the tables of the state
pub put_there : {A : Type 0} (part : SlotParts → A) (xs : List Slot) (i : ℕ) (y : Slot) → i < length xs
    → at_put (λ j. part (slot_at (map slot_parts xs) j)) i (part (slot_parts y))
    ≡ (λ j. part (slot_at (map slot_parts (set xs i y)) j))
put_there part xs i y within = λ k j.
    let slots = map slot_parts xs in
    let inside : i < length slots = subst (λ n. i < n) (sym (length-map xs slot_parts)) within in
    (put_part part (slot_parts y) (slot_at slots j) (j == i)
    ∙ ap part (sym (put_slot slots i (slot_parts y) j (j == i) inside refl))
    ∙ ap (λ zs. part (slot_at zs j)) (sym (map-set slot_parts xs i y))) k

pub holding_there : (s t : List ℕ) (g : FinSet nat_cmp) (xs : List Slot) (i : ℕ) (y : Slot) → i < length xs
    → holding (state_of (parts_of s g xs)) i t y ≡ state_of (parts_of t g (set xs i y))
holding_there s t g xs i y within = λ k. record {
  storage = function_of t;
  text = items g;
  cpus = put_there (λ (p : SlotParts). p.cpu) xs i y within k;
  pending = put_there (λ (p : SlotParts). p.pending) xs i y within k;
  waiting = put_there (λ (p : SlotParts). p.waiting) xs i y within k;
}

-- a block that is pending lies in storage
pub placed_there : (s : List ℕ) (g : FinSet nat_cmp) (xs : List Slot) (i : ℕ) (x : Slot) → i < length xs
    → x ≡ get_or xs i x → IsSound (parts_of s g xs) → (b : Block) → x.pending ≡ Some b
    → b.address + 256 ≤ storage_size
placed_there s g xs i x inside is sound b there =
    let holds = holds_there s g xs i x inside is in
    let block : Pending = record { address = b.address; bytes = b.bytes } in
    let placed = sound.kept.blocks i block (holds.pending ∙ ap pending_of there) in
    let last = (placed.free 255 (lit< tt)).accessible in
    let end = accessible_within ((state_of (parts_of s g xs)).cpus i).prefix (b.address + 255) last in
    omega (arith, end)

-- ---- an entry

same_entry : (e : Entry) → of_cpu e (cpu_of_entry e) ≡ e
same_entry (Step i) = refl
same_entry (Commit i n) = refl
same_entry (Abort i n why) = refl
same_entry (Tdb i) = refl
same_entry (Interrupt i) = refl

-- of a CPU that is not there
halted : (f : FlatState) (i : ℕ) → f.cpus i ≡ no_cpu → may_act f i ≡ false
halted f i h = ap (λ (c : Cpu). is_running c.state && is_none (f.pending i)) h

absent_by : (f : FlatState) (e : Entry) (k : ℕ) → k ≡ cpu_of_entry e → f.cpus k ≡ no_cpu
    → f.pending k ≡ None → f.waiting k ≡ None → apply f e ≡ None
absent_by f (Step i) k at cpu pending waiting =
    no_step f i (halted f i (ap f.cpus (sym at) ∙ cpu))
absent_by f (Commit i n) k at cpu pending waiting =
    may_not f i n (halted f i (ap f.cpus (sym at) ∙ cpu))
absent_by f (Abort i n why) k at cpu pending waiting =
    may_not_abort f i n why (halted f i (ap f.cpus (sym at) ∙ cpu))
absent_by f (Tdb i) k at cpu pending waiting = no_block f i (ap f.pending (sym at) ∙ pending)
absent_by f (Interrupt i) k at cpu pending waiting =
    none_waits f i (ap f.pending (sym at) ∙ pending) (ap f.waiting (sym at) ∙ waiting)

pub absent : (s : List ℕ) (g : FinSet nat_cmp) (xs : List Slot) (e : Entry) (k : ℕ) → k ≡ cpu_of_entry e
    → length xs ≤ k → apply (state_of (parts_of s g xs)) e ≡ None
absent s g xs e k at past =
    let none = slot_missing xs k past in
    absent_by (state_of (parts_of s g xs)) e k at (ap (λ (p : SlotParts). p.cpu) none)
    (ap (λ (p : SlotParts). p.pending) none) (ap (λ (p : SlotParts). p.waiting) none)

-- where it fits
pub applied_there : (s t : List ℕ) (g : FinSet nat_cmp) (xs : List Slot) (i : ℕ) (x y : Slot) (e : Entry)
    → i < length xs → x ≡ get_or xs i x → i ≡ cpu_of_entry e
    → ((f : FlatState) (k : ℕ) → Holds f k s (items g) x → apply f (of_cpu e k) ≡ Some (holding f k t y))
    → apply (state_of (parts_of s g xs)) e ≡ Some (state_of (parts_of t g (set xs i y)))
applied_there s t g xs i x y e inside is at all =
    let f = state_of (parts_of s g xs) in
    ap (apply f) (sym (ap (of_cpu e) at ∙ same_entry e))
    ∙ all f i (holds_there s g xs i x inside is)
    ∙ ap (λ after. Some after) (holding_there s t g xs i y inside)

-- and where it does not
pub refused_there : (s t : List ℕ) (g : FinSet nat_cmp) (xs : List Slot) (i : ℕ) (x y : Slot) (e : Entry)
    (fault : ApplyFault) → i < length xs → x ≡ get_or xs i x → i ≡ cpu_of_entry e
    → IsApplied (λ f k. apply f (of_cpu e k)) (items g) s t x y (Err fault)
    → Applies e (parts_of s g xs) (parts_of t g xs) (Err fault)
refused_there s t g xs i x y e Misfit inside is at h =
    let f = state_of (parts_of s g xs) in (
      ap (apply f) (sym (ap (of_cpu e) at ∙ same_entry e)) ∙ h.0 f i (holds_there s g xs i x inside is),
      ap (λ bytes. parts_of bytes g xs) h.1,
    )
refused_there s t g xs i x y e Memory inside is at h = ap (λ bytes. parts_of bytes g xs) h.0

-- the slots then are the same, and storage
pub unchanged_there : (s t : List ℕ) (g : FinSet nat_cmp) (xs : List Slot) (i : ℕ) (x y : Slot) (e : Entry)
    (fault : ApplyFault) → x ≡ get_or xs i x → IsApplied (λ f k. apply f (of_cpu e k)) (items g) s t x y (Err fault)
    → parts_of t g (set xs i y) ≡ parts_of s g xs
unchanged_there s t g xs i x y e Misfit is h =
    (λ k. parts_of (h.1 k) g (set xs i (h.2 k))) ∙ ap (λ z. parts_of s g (set xs i z)) is
    ∙ ap (parts_of s g) (set-get_or xs i x)
unchanged_there s t g xs i x y e Memory is h =
    (λ k. parts_of (h.0 k) g (set xs i (h.1 k))) ∙ ap (λ z. parts_of s g (set xs i z)) is
    ∙ ap (parts_of s g) (set-get_or xs i x)

-- and where it does not fit in place
pub refused_in_place : (s t : List ℕ) (g : FinSet nat_cmp) (xs : List Slot) (i : ℕ) (x y : Slot) (e : Entry)
    (fault : ApplyFault) → i < length xs → x ≡ get_or xs i x → i ≡ cpu_of_entry e
    → IsApplied (λ f k. apply f (of_cpu e k)) (items g) s t x y (Err fault)
    → Applies e (parts_of s g xs) (parts_of t g (set xs i y)) (Err fault)
refused_in_place s t g xs i x y e Misfit inside is at h =
    ((refused_there s t g xs i x y e Misfit inside is at h).0, unchanged_there s t g xs i x y e Misfit is h)
refused_in_place s t g xs i x y e Memory inside is at h = unchanged_there s t g xs i x y e Memory is h

-- then it still holds what has to
pub sound_after : (s t : List ℕ) (g : FinSet nat_cmp) (xs : List Slot) (i : ℕ) (y : Slot) (e : Entry)
    → IsSound (parts_of s g xs)
    → apply (state_of (parts_of s g xs)) e ≡ Some (state_of (parts_of t g (set xs i y)))
    → IsSound (parts_of t g (set xs i y))
sound_after s t g xs i y e sound applied =
    let few = sound.few in
    let old = length-map xs slot_parts in
    let new = length-map (set xs i y) slot_parts in
    let same = length-set xs i y in
    record {
      kept = entry_keeps (state_of (parts_of s g xs)) (state_of (parts_of t g (set xs i y))) e sound.kept
          applied;
      few = omega (arith, few, old, new, same);
    }

-- an entry is applied in place, whether it fits or not
pub done_there : (s t : List ℕ) (g : FinSet nat_cmp) (xs : List Slot) (i : ℕ) (x y : Slot) (e : Entry)
    (r : Result (Unit {0}) ApplyFault) → i < length xs → x ≡ get_or xs i x → i ≡ cpu_of_entry e
    → IsApplied (λ f k. apply f (of_cpu e k)) (items g) s t x y r
    → Applies e (parts_of s g xs) (parts_of t g (set xs i y)) r
done_there s t g xs i x y e (Ok u) inside is at all = applied_there s t g xs i x y e inside is at all
done_there s t g xs i x y e (Err fault) inside is at h = refused_in_place s t g xs i x y e fault inside is at h

-- and what has to hold still does
pub sound_there : (s t : List ℕ) (g : FinSet nat_cmp) (xs : List Slot) (i : ℕ) (x y : Slot) (e : Entry)
    (r : Result (Unit {0}) ApplyFault) → i < length xs → x ≡ get_or xs i x → i ≡ cpu_of_entry e
    → IsApplied (λ f k. apply f (of_cpu e k)) (items g) s t x y r → IsSound (parts_of s g xs)
    → IsSound (parts_of t g (set xs i y))
sound_there s t g xs i x y e (Ok u) inside is at all sound =
    sound_after s t g xs i y e sound (applied_there s t g xs i x y e inside is at all)
sound_there s t g xs i x y e (Err fault) inside is at h sound =
    subst IsSound (sym (unchanged_there s t g xs i x y e fault is h)) sound

-- ---- the start

fresh_at : (cpus : List Cpu) (i : ℕ) → slot_at (map fresh cpus) i ≡ fresh (cpu_at cpus i)
fresh_at [] i = refl
fresh_at (c ∷ cs) zero = refl
fresh_at (c ∷ cs) (suc i) = fresh_at cs i

pub started_state : (image : Content) (slots : List Slot) → map slot_parts slots ≡ map fresh image.cpus
    → state_of (parts_of image.storage image.guard slots) ≡ start_of image
unfolding start_of
started_state image slots is =
    let part : (i : ℕ) → slot_at (map slot_parts slots) i ≡ fresh (cpu_at image.cpus i) =
    λ i. ap (λ zs. slot_at zs i) is ∙ fresh_at image.cpus i in
    λ k. record {
      storage = function_of image.storage;
      text = items image.guard;
      cpus = λ i. (part i k).cpu;
      pending = λ i. (part i k).pending;
      waiting = λ i. (part i k).waiting;
    }

pub started_sound : (image : Content) (slots : List Slot) → map slot_parts slots ≡ map fresh image.cpus
    → IsImage image → IsSound (parts_of image.storage image.guard slots)
started_sound image slots is sound =
    let few = sound.few_cpus in
    let same = ap (λ (zs : List SlotParts). length zs) is in
    let all = length-map image.cpus fresh in
    record {
      kept = subst IsKept (sym (started_state image slots is)) (start_kept image sound);
      few = omega (arith, few, same, all);
    }

-- from what the calls ensure
pub start_shown : (image : Content) (t : List ℕ) (g : FinSet nat_cmp) (slots : List Slot) → t ≡ image.storage
    → g ≡ image.guard → map slot_parts slots ≡ map fresh image.cpus
    → state_of (parts_of t g slots) ≡ start_of image
start_shown image t g slots bytes pages is =
    ap (λ b. state_of (parts_of b g slots)) bytes
    ∙ ap (λ h. state_of (parts_of image.storage h slots)) pages
    ∙ started_state image slots is

pub start_sound : (image : Content) (t : List ℕ) (g : FinSet nat_cmp) (slots : List Slot) → t ≡ image.storage
    → g ≡ image.guard → map slot_parts slots ≡ map fresh image.cpus → IsImage image
    → IsSound (parts_of t g slots)
start_sound image t g slots bytes pages is sound =
    subst (λ b. IsSound (parts_of b g slots)) (sym bytes)
    (subst (λ h. IsSound (parts_of image.storage h slots)) (sym pages) (started_sound image slots is sound))
