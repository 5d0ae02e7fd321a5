-- States that hold what is kept of a CPU, and entries of that CPU.
use Rattle.std.proofs.Common.{◌≡◌, ◌≢◌, ℕ, Bool, true, false, List, Option, Some, None, refl, sym, ap}
use Rattle.std.proofs.Common.{◌∙◌, arith}
use Rattle.std.proofs.Common.{length}
use Rattle.std.specs.Prelude.{◌==◌, if◌then◌else◌, ◌&&◌, is_none}
use Rattle.z_regs.specs.Cpu.{Cpu, cpu_of}
use Rattle.z_regs.specs.Prefix.{is_prefix}
use Rattle.z_regs.specs.Seen.{seen_by}
use Rattle.z_regs.specs.declared.waiting.Waiting.{Waiting}
use Rattle.z_regs.proofs.Exchange.{seen_twice}
use Rattle.tx_journal.specs.declared.entries.Entry.TheVariants.{Commit, Tdb, Interrupt}
use Rattle.tx_serial.specs.Flat.{Storage, FlatState, Pending, at_put, bytes_of, with_bytes_at}
use Rattle.tx_serial.specs.Attempt.{Run}
use Rattle.tx_serial.specs.Attempt as run
use Rattle.tx_serial.specs.Run.{run as runs}
use Rattle.tx_serial.specs.Apply.{apply, only_where, may_act, is_running, after_commit, after_block}
use Rattle.tx_serial.specs.Apply.{after_interruption, with_stored_interruption, with_new_psw}
use Rattle.tx_serial.proofs.Copies.{run_prefix}
use Rattle.tx_private.specs.Bytes.{function_of}
use Rattle.tx_private.specs.declared.attempt.Attempt.{Attempt}
use Rattle.tx_flat.specs.declared.slot.Slot.{Slot}
use Rattle.tx_flat.specs.declared.slot.Block.{Block}
use Rattle.tx_private.specs.Shows.{Shows, IsRunOf, EndsInTime, mark_of}
use Rattle.tx_flat.specs.Slots.{Holds, holding, pending_of, acts, commits}
use Rattle.tx_private.proofs.Laid.{read_as, length-bytes}

-- ---- tables

put_same : {A : Type 0} (table : ℕ → A) (i : ℕ) (v : A) (j : ℕ) (b : Bool) → (j == i) ≡ b → table i ≡ v
    → at_put table i v j ≡ table j
put_same table i v j true e h =
    let same : j ≡ i = grind (arith, e) in
    ap (λ t. if t then v else table j) e ∙ sym h ∙ ap table (sym same)
put_same table i v j false e h = ap (λ t. if t then v else table j) e

-- what is put back changes nothing
pub put_back : {A : Type 0} (table : ℕ → A) (i : ℕ) (v : A) → table i ≡ v → at_put table i v ≡ table
put_back table i v h = λ k j. put_same table i v j (j == i) refl h k

-- ---- states

abbrev pub with_parts : FlatState → Storage → (ℕ → Cpu) → (ℕ → Option Pending) → (ℕ → Option Waiting)
    → FlatState
with_parts f s cpus pending waiting = record f {
  storage = s;
  cpus = cpus;
  pending = pending;
  waiting = waiting;
}

pub held : (f : FlatState) (i : ℕ) (t : List ℕ) (s : Slot) (storage : Storage) (cpus : ℕ → Cpu)
    (pending : ℕ → Option Pending) (waiting : ℕ → Option Waiting) → function_of t ≡ storage
    → at_put f.cpus i (cpu_of s.image) ≡ cpus → at_put f.pending i (pending_of s.pending) ≡ pending
    → at_put f.waiting i s.waiting ≡ waiting → with_parts f storage cpus pending waiting ≡ holding f i t s
held f i t s storage cpus pending waiting a b c d = λ k. with_parts f (sym a k) (sym b k) (sym c k) (sym d k)

-- ---- whether a CPU may act

pub may : (f : FlatState) (i : ℕ) (bytes text : List ℕ) (s : Slot) (b c : Bool) → Holds f i bytes text s
    → b ≡ acts (cpu_of s.image).state (pending_of s.pending) → b ≡ c → may_act f i ≡ c
may f i bytes text s b c h e is =
    ap (λ (d : Cpu). is_running d.state && is_none (f.pending i)) h.cpu
    ∙ ap (λ (p : Option Pending). is_running (cpu_of s.image).state && is_none p) h.pending
    ∙ sym e ∙ is

-- ---- a commit

-- a copy in the order of absolute addresses again
pub seen_back : (s : Storage) (prefix : Option ℕ) (seen t : List ℕ) → is_prefix prefix ≡ true
    → seen ≡ seen_by prefix (bytes_of s) → EndsInTime s → t ≡ seen_by prefix seen → function_of t ≡ s
seen_back s prefix seen t ok shown ends e =
    let whole : t ≡ bytes_of s =
    e ∙ ap (seen_by prefix) shown ∙ seen_twice prefix (bytes_of s) ok (length-bytes s) in
    read_as t s (ap (λ (l : List ℕ). length l) whole ∙ length-bytes s) whole ends

pub copy_back : (base : Storage) (a : Attempt) (p : Run) (prefix : Option ℕ) (t : List ℕ) → Shows base a p
    → is_prefix prefix ≡ true → p.cpu.prefix ≡ prefix → t ≡ seen_by prefix a.seen → function_of t ≡ p.copy
copy_back base a p prefix t shows ok same e =
    seen_back p.copy prefix a.seen t ok (shows.copy ∙ ap (λ x. seen_by x (bytes_of p.copy)) same)
    shows.copy_ends e

pub not_missing : (m : run.Mark) → m ≡ run.Committed → m ≢ run.Missing
not_missing m e h = by (sym e ∙ h)
  where
    by : run.Committed ≡ run.Missing → ⊥
    by g = cc

pub committed : (f : FlatState) (i n : ℕ) (bytes text t : List ℕ) (s new : Slot) (a : Attempt)
    → Holds f i bytes text s
    → may_act f i ≡ true → IsRunOf bytes text (cpu_of s.image) n a → mark_of a.mark ≡ run.Committed
    → t ≡ seen_by s.image.prefix a.seen → new.image ≡ a.image → new.pending ≡ s.pending
    → new.waiting ≡ s.waiting
    → apply f (Commit i n) ≡ Some (holding f i t new)
unfolding apply
committed f i n bytes text t s new a h may is mark e image pending waiting =
    let r = is f i h.storage h.text h.cpu in
    let p = runs f i n in
    let there : p.mark ≡ run.Committed = sym r.mark ∙ mark in
    let shows = r.shows (not_missing p.mark there) in
    let same : p.cpu.prefix ≡ s.image.prefix = run_prefix f i n ∙ ap (λ (c : Cpu). c.prefix) h.cpu in
    ap (λ b. only_where b (after_commit f i p p.mark)) may
    ∙ ap (after_commit f i p) there
    ∙ ap (λ x. Some x)
    (held f i t new p.copy (at_put f.cpus i p.cpu) f.pending f.waiting
    (copy_back f.storage a p s.image.prefix t shows s.image.prefix_in same e)
    (ap (λ c. at_put f.cpus i c) (ap cpu_of image ∙ sym shows.cpu))
    (put_back f.pending i (pending_of new.pending) (h.pending ∙ ap pending_of (sym pending)))
    (put_back f.waiting i new.waiting (h.waiting ∙ sym waiting)))

-- no commit fits where the CPU may not act, or where the run is not committed
pub may_not : (f : FlatState) (i n : ℕ) → may_act f i ≡ false → apply f (Commit i n) ≡ None
unfolding apply
may_not f i n may = ap (λ b. only_where b (after_commit f i (runs f i n) (runs f i n).mark)) may

none_either : (b : Bool) → only_where {A = FlatState} b None ≡ None
none_either true = refl
none_either false = refl

uncommitted : (f : FlatState) (i : ℕ) (p : Run) (m : run.Mark) → m ≢ run.Committed
    → after_commit f i p m ≡ None
uncommitted f i p run.Open h = refl
uncommitted f i p run.Committed h = absurd (h refl)
uncommitted f i p run.Overflowed h = refl
uncommitted f i p run.Missing h = refl

pub not_committed : (f : FlatState) (i n : ℕ) (bytes text : List ℕ) (s : Slot) (a : Attempt)
    → Holds f i bytes text s
    → IsRunOf bytes text (cpu_of s.image) n a → mark_of a.mark ≢ run.Committed → apply f (Commit i n) ≡ None
unfolding apply
not_committed f i n bytes text s a h is mark =
    let r = is f i h.storage h.text h.cpu in
    ap (only_where (may_act f i)) (uncommitted f i (runs f i n) (runs f i n).mark (λ e. mark (r.mark ∙ e)))
    ∙ none_either (may_act f i)

pub is_committed : (m : run.Mark) (b : Bool) → b ≡ commits m → b ≡ true → m ≡ run.Committed
is_committed run.Open b e h = absurd (cc)
is_committed run.Committed b e h = refl
is_committed run.Overflowed b e h = absurd (cc)
is_committed run.Missing b e h = absurd (cc)

pub is_not : (m : run.Mark) (b : Bool) → b ≡ commits m → b ≡ false → m ≢ run.Committed
is_not m b e h g = let n : true ≡ false = ap commits (sym g) ∙ sym e ∙ h in cc

-- ---- a block that is stored

pub no_block : (f : FlatState) (i : ℕ) → f.pending i ≡ None → apply f (Tdb i) ≡ None
unfolding apply
no_block f i h = ap (after_block f i) h

pub block_stored : (f : FlatState) (i : ℕ) (bytes text t : List ℕ) (s new : Slot) (b : Block)
    → Holds f i bytes text s
    → s.pending ≡ Some b → function_of t ≡ with_bytes_at s.image.prefix b.address b.bytes (function_of bytes)
    → new.image ≡ s.image → new.pending ≡ None → new.waiting ≡ s.waiting
    → apply f (Tdb i) ≡ Some (holding f i t new)
unfolding apply
block_stored f i bytes text t s new b h there stored image pending waiting =
    ap (after_block f i) (h.pending ∙ ap pending_of there)
    ∙ ap (λ x. Some x)
    (held f i t new (with_bytes_at (f.cpus i).prefix b.address b.bytes f.storage) f.cpus (at_put f.pending i
    None)
    f.waiting
    (stored ∙ ap (with_bytes_at s.image.prefix b.address b.bytes) (sym h.storage)
    ∙ ap (λ (c : Cpu). with_bytes_at c.prefix b.address b.bytes f.storage) (sym h.cpu))
    (put_back f.cpus i (cpu_of new.image) (h.cpu ∙ ap cpu_of (sym image)))
    (ap (λ o. at_put f.pending i (pending_of o)) pending)
    (put_back f.waiting i new.waiting (h.waiting ∙ sym waiting)))

-- ---- an interruption that is taken

pub none_taken : (f : FlatState) (i : ℕ) (b : Pending) → f.pending i ≡ Some b → apply f (Interrupt i) ≡ None
unfolding apply
none_taken f i b h = ap (λ o. after_interruption f i o (f.waiting i)) h

pub none_waits : (f : FlatState) (i : ℕ) → f.pending i ≡ None → f.waiting i ≡ None
    → apply f (Interrupt i) ≡ None
unfolding apply
none_waits f i h k = ap (λ o. after_interruption f i o (f.waiting i)) h ∙ ap (after_interruption f i None) k

pub taken : (f : FlatState) (i : ℕ) (bytes text t : List ℕ) (s new : Slot) (w : Waiting)
    → Holds f i bytes text s
    → s.pending ≡ None → s.waiting ≡ Some w
    → function_of t ≡ with_stored_interruption (cpu_of s.image) w (function_of bytes)
    → cpu_of new.image ≡ with_new_psw (cpu_of s.image) (function_of t) → new.pending ≡ None
    → new.waiting ≡ None
    → apply f (Interrupt i) ≡ Some (holding f i t new)
unfolding apply
taken f i bytes text t s new w h none there stored image pending waiting =
    let c = f.cpus i in
    let storage = with_stored_interruption c w f.storage in
    let same : function_of t ≡ storage =
    stored ∙ ap (with_stored_interruption (cpu_of s.image) w) (sym h.storage)
    ∙ ap (λ (d : Cpu). with_stored_interruption d w f.storage) (sym h.cpu) in
    ap (λ o. after_interruption f i o (f.waiting i)) (h.pending ∙ ap pending_of none)
    ∙ ap (after_interruption f i None) (h.waiting ∙ there)
    ∙ ap (λ x. Some x)
    (held f i t new storage (at_put f.cpus i (with_new_psw c storage)) f.pending (at_put f.waiting i None)
    same
    (ap (λ (d : Cpu). at_put f.cpus i d)
    (image ∙ ap (with_new_psw (cpu_of s.image)) same ∙ ap (λ (d : Cpu). with_new_psw d storage) (sym h.cpu)))
    (put_back f.pending i (pending_of new.pending)
    (h.pending ∙ ap pending_of none ∙ sym (ap pending_of pending)))
    (ap (λ o. at_put f.waiting i o) waiting))
