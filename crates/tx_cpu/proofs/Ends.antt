-- What is kept of a CPU where its program stops, where its attempt is aborted, where its block is stored and
-- where its interruption is taken.
use Rattle.std.proofs.Common.{◌≡◌, ℕ, true, false, List, Option, Some, None, sym, ap, ◌∙◌}
use Rattle.std.specs.Prelude.{if◌then◌else◌, nat_lt}
use Rattle.z_regs.specs.Cpu.{Cpu}
use Rattle.z_regs.specs.declared.waiting.Waiting.{Waiting}
use Rattle.z_effect.specs.Interrupted.{interrupted_by}
use Rattle.tx_control.specs.Nesting.{outermost_mask, outermost_block}
use Rattle.tx_control.specs.declared.causes.Why.{Why}
use Rattle.tx_control.specs.declared.exceptions.Exception.{Exception}
use Rattle.tx_abort.specs.Causes.{cause_of}
use Rattle.tx_abort.specs.Block.{block}
use Rattle.tx_abort.specs.Registers.{with_restored}
use Rattle.store_cache.specs.Entries.{stores_of}
use Rattle.store_cache.specs.Stores.{lasting_bytes}
use Rattle.tx_serial.specs.Flat.{Pending, with_bytes_at}
use Rattle.tx_serial.specs.Remains.{waiting_with, interrupted_after, pending_after, waiting_after}
use Rattle.tx_serial.specs.Apply.{with_stored_interruption, with_new_psw}
use Rattle.tx_progress.specs.Progress.{resting, seen_through}
use Rattle.tx_progress.specs.Local.{aborted, cpu_left, block_stored, storage_with}
use Rattle.tx_progress.specs.Local.{interruption_taken, taken_by}
use Rattle.tx_progress.specs.Doing.{stopped}
use Rattle.tx_attempt.specs.Tracked.{Tracked, progress}
use Rattle.tx_cpu.specs.Parts.{Parts, local_of, beside}
use Rattle.tx_attempt.specs.Storages.{storage_of}
use Rattle.tx_cpu.proofs.Settling.{local-rests}

-- without an attempt, the CPU as the history leaves it is the CPU as it is
pub cpu-rests : (p : Parts) → nat_lt 0 p.attempt.count ≡ false → (local_of p).cpu ≡ p.image
cpu-rests p h = ap (λ b. if b then p.saved else p.image) h

pub stopped-is : (p : Parts) (image : Cpu) (e : Exception) (w : Option Waiting)
    → nat_lt 0 p.attempt.count ≡ false → ((c : Cpu) → progress p.attempt c ≡ resting c)
    → image ≡ interrupted_by e p.image → w ≡ waiting_with image.prefix e.length None
    → local_of (record p { image = image; waiting = w }) ≡ stopped e (local_of p)
unfolding stopped
stopped-is p image e w live rests ei ew =
    let same : image ≡ interrupted_by e (local_of p).cpu =
    ei ∙ ap (interrupted_by e) (sym (cpu-rests p live)) in
    let waits = ew ∙ ap (λ (c : Cpu). waiting_with c.prefix e.length None) same in
    local-rests image p.saved p.attempt p.pending w rests
    ∙ (λ i. record {
      cpu = same i;
      attempt = resting (same i);
      pending = p.pending;
      waiting = waits i;
    })

pub aborted-is : (p : Parts) (image saved : Cpu) (t : Tracked) (pending : Option Pending) (w : Option Waiting)
    (why : Why) (at : ℕ) (old new : List ℕ) → nat_lt 0 p.attempt.count ≡ true
    → ((c : Cpu) → progress t c ≡ resting c)
    → image ≡ interrupted_after why (record (with_restored p.saved.general (outermost_mask p.attempt.nest)
    p.image) { address = p.attempt.resumes_at; condition = (cause_of why).condition })
    → pending ≡ pending_after (outermost_block p.attempt.nest) (block why p.attempt.nest p.image.general at)
    → w ≡ waiting_after p.image.prefix (block why p.attempt.nest p.image.general at) why
    → storage_of new ≡ seen_through (lasting_bytes (stores_of p.attempt.stores).lasting) (storage_of old)
    → beside (record { image = image; saved = saved; attempt = t; pending = pending; waiting = w }) new
    ≡ aborted why at (beside p old)
unfolding aborted
aborted-is p image saved t pending w why at old new live rests ei ep ew es =
    let there : (local_of p).cpu ≡ p.saved = ap (λ b. if b then p.saved else p.image) live in
    let same : image ≡ cpu_left (local_of p).cpu (progress p.attempt p.image) why =
    ei ∙ sym (ap (λ (s : Cpu). cpu_left s (progress p.attempt p.image) why) there) in
    λ i. record {
      local = (local-rests image saved t pending w rests
          ∙ (λ j. record {
            cpu = same j;
            attempt = resting (same j);
            pending = ep j;
            waiting = ew j;
          })) i;
      storage = es i;
    }

-- ---- a pending block

pub stored-is : (p : Parts) (b : Pending) (old new : List ℕ) → p.pending ≡ Some b
    → storage_of new ≡ with_bytes_at (local_of p).cpu.prefix b.address b.bytes (storage_of old)
    → beside (record p { pending = None }) new ≡ block_stored (beside p old)
unfolding block_stored
stored-is p b old new ep es =
    λ i. record {
      local = local_of (record p { pending = None });
      storage = (es ∙ ap (λ (o : Option Pending). storage_with (local_of p).cpu.prefix o (storage_of old))
          (sym ep)) i;
    }

pub unstored-is : (p : Parts) (old : List ℕ) → p.pending ≡ None → beside p old ≡ block_stored (beside p old)
unfolding block_stored
unstored-is p old ep =
    λ i. record {
      local = record (local_of p) { pending = ep i };
      storage = ap (λ (o : Option Pending). storage_with (local_of p).cpu.prefix o (storage_of old)) (sym ep)
          i;
    }

-- ---- a waiting interruption

pub taken-is : (p : Parts) (image : Cpu) (w : Waiting) (old new : List ℕ) → nat_lt 0 p.attempt.count ≡ false
    → ((c : Cpu) → progress p.attempt c ≡ resting c) → p.waiting ≡ Some w
    → storage_of new ≡ with_stored_interruption p.image w (storage_of old)
    → image ≡ with_new_psw p.image (storage_of new)
    → beside (record p { image = image; waiting = None }) new ≡ interruption_taken (beside p old)
unfolding interruption_taken
taken-is p image w old new live rests ew es ei =
    let there = cpu-rests p live in
    let c : Cpu = (local_of p).cpu in
    let stored : storage_of new ≡ with_stored_interruption c w (storage_of old) =
    es ∙ ap (λ (x : Cpu). with_stored_interruption x w (storage_of old)) (sym there) in
    let same : image ≡ with_new_psw c (with_stored_interruption c w (storage_of old)) =
    ei ∙ (λ i. with_new_psw (sym there i) (stored i)) in
    let done : beside (record p { image = image; waiting = None }) new ≡ taken_by (Some w) (beside p old) =
    λ i. record {
      local = (local-rests image p.saved p.attempt p.pending None rests
          ∙ (λ j. record {
            cpu = same j;
            attempt = resting (same j);
            pending = p.pending;
            waiting = None;
          })) i;
      storage = stored i;
    } in
    done ∙ ap (λ (o : Option Waiting). taken_by o (beside p old)) (sym ew)

pub untaken-is : (p : Parts) (old : List ℕ) → p.waiting ≡ None
    → beside p old ≡ interruption_taken (beside p old)
unfolding interruption_taken
untaken-is p old ew = ap (λ (o : Option Waiting). taken_by o (beside p old)) (sym ew)
