-- What is kept of a CPU after an instruction outside transactions.
use Rattle.std.proofs.Common.{◌≡◌, ℕ, false, List, [], Option, None, sym, ap, ◌∙◌}
use Rattle.std.specs.Prelude.{nat_lt}
use Rattle.z_regs.specs.Cpu.{Cpu}
use Rattle.z_regs.specs.declared.ranges.Range.{Range}
use Rattle.z_regs.specs.declared.waiting.Waiting.{Waiting}
use Rattle.z_instr.specs.declared.instr.Instr.{Instr}
use Rattle.z_effect.specs.After.{cpu_after, exception}
use Rattle.z_effect.specs.One.{length_of}
use Rattle.z_effect.specs.Outcome.{Outcome, Did, Overflowed, Divides, Aborts}
use Rattle.z_effect.specs.Interrupted.{cpu_outside, with_interruption, interrupted_by}
use Rattle.tx_control.specs.Codes.{fixed_point_overflow_code, fixed_point_divide_code}
use Rattle.tx_serial.specs.Flat.{Storage}
use Rattle.tx_serial.specs.Remains.{waiting_with}
use Rattle.tx_progress.specs.Progress.{resting}
use Rattle.tx_progress.specs.Doing.{Executed, outside, done_outside, told_of}
use Rattle.z_effect.specs.TransactionEffect.{delay_given}
use Rattle.tx_progress.specs.declared.done.Done.{Done}
use Rattle.tx_attempt.specs.declared.performing.Ended.{Ended}
use Rattle.tx_attempt.specs.Performed.{ended_of, outcome_from, waiting_outside, storage_left, IsLeftOutside}
use Rattle.tx_attempt.specs.Tracked.{progress}
use Rattle.tx_cpu.specs.Parts.{Parts, local_of, beside}
use Rattle.tx_attempt.specs.Storages.{storage_of}
use Rattle.tx_cpu.proofs.Ends.{cpu-rests}
use Rattle.tx_cpu.proofs.Settling.{local-rests}

-- ---- what is left and told

after-is : (p : Parts) (image x : Cpu) (w v : Option Waiting) (new : List ℕ) (s : Storage) (told : Done)
    (turns d : ℕ) → ((c : Cpu) → progress p.attempt c ≡ resting c) → image ≡ x → w ≡ v → storage_of new ≡ s
    → turns ≡ d → told ≡ told_of image.state turns
    → ◌≡◌ {A = Executed} (record {
      after = beside
          (record p { image = image; waiting = w }) new;
      told = told;
    })
    (record {
      after = record {
        local = record { cpu = x; attempt = resting x; pending = p.pending; waiting = v };
        storage = s;
      };
      told = told_of x.state d;
    })
after-is p image x w v new s told turns d rests ex ew es ed et =
    let local = local-rests image p.saved p.attempt p.pending w rests
    ∙ (λ k. record { cpu = ex k; attempt = resting (ex k); pending = p.pending; waiting = ew k }) in
    let tells : told ≡ told_of x.state d = et ∙ (λ k. told_of (ex k).state (ed k)) in
    λ j. record { after = record { local = local j; storage = es j }; told = tells j }

unchanged-is : (p : Parts) (old : List ℕ) (d : ℕ) → nat_lt 0 p.attempt.count ≡ false
    → ((c : Cpu) → progress p.attempt c ≡ resting c)
    → ◌≡◌ {A = Executed} (record {
      after = record {
        local =
            record { cpu = p.image; attempt = resting p.image; pending = p.pending; waiting = p.waiting };
        storage = storage_of old;
      };
      told = told_of p.image.state d;
    }) (record { after = beside p old; told = told_of (local_of p).cpu.state d })
unchanged-is p old d live rests =
    let local = sym (local-rests p.image p.saved p.attempt p.pending p.waiting rests) in
    let same = sym (cpu-rests p live) in
    λ j. record {
      after = record { local = local j; storage = storage_of old };
      told = told_of (same j).state d;
    }

outside-by : (p : Parts) (i : Instr) (need : List Range) (o : Outcome) (c image : Cpu)
    (w : Option Waiting) (old new : List ℕ) (told : Done) (turns : ℕ) → nat_lt 0 p.attempt.count ≡ false
    → ((x : Cpu) → progress p.attempt x ≡ resting x) → c ≡ cpu_after p.image o
    → image ≡ cpu_outside (length_of i) c (outcome_from (ended_of o) c [])
    → w ≡ waiting_outside image.prefix (length_of i) (ended_of o) p.waiting
    → storage_of new ≡ storage_left p.image.prefix need o (storage_of old)
    → turns ≡ delay_given i p.image → told ≡ told_of image.state turns
    → ◌≡◌ {A = Executed} (record {
      after = beside
          (record p { image = image; waiting = w }) new;
      told = told;
    })
    (done_outside i (beside p old) (outside i need (beside p old) o))
outside-by p i need (Did x all) c image w old new told turns live rests ec ei ew es ed et =
    after-is p image x w p.waiting new _ told turns (delay_given i (local_of p).cpu) rests (ei ∙ ec) ew es
    (ed ∙ ap (delay_given i) (sym (cpu-rests p live))) et
outside-by p i need (Overflowed x all) c image w old new told turns live rests ec ei ew es ed et =
    let same : image ≡ with_interruption fixed_point_overflow_code x =
    ei ∙ ap (with_interruption fixed_point_overflow_code) ec in
    let waits : w ≡ waiting_with x.prefix (length_of i) None =
    ew ∙ ap (λ (y : Cpu). waiting_with y.prefix (length_of i) None) same in
    after-is p image (with_interruption fixed_point_overflow_code x) w _ new _ told turns
    (delay_given i (local_of p).cpu) rests same waits es
    (ed ∙ ap (delay_given i) (sym (cpu-rests p live))) et
outside-by p i need Divides c image w old new told turns live rests ec ei ew es ed et =
    let e = exception fixed_point_divide_code (length_of i) in
    let same : image ≡ interrupted_by e (local_of p).cpu =
    ei ∙ ap (interrupted_by e) (ec ∙ sym (cpu-rests p live)) in
    let waits : w ≡ waiting_with (interrupted_by e (local_of p).cpu).prefix (length_of i) None =
    ew ∙ ap (λ (y : Cpu). waiting_with y.prefix (length_of i) None) same in
    after-is p image (interrupted_by e (local_of p).cpu) w _ new _ told turns
    (delay_given i (local_of p).cpu) rests same waits es
    (ed ∙ ap (delay_given i) (sym (cpu-rests p live))) et
outside-by p i need (Aborts code) c image w old new told turns live rests ec ei ew es ed et =
    after-is p image p.image w p.waiting new (storage_of old) told turns (delay_given i
    (local_of p).cpu) rests
    (ei ∙ ec) ew es (ed ∙ ap (delay_given i) (sym (cpu-rests p live))) et
    ∙ unchanged-is p old (delay_given i (local_of p).cpu) live rests

pub outside-is : (p : Parts) (i : Instr) (need : List Range) (o : Outcome) (e : Ended) (c image : Cpu)
    (w : Option Waiting) (old new : List ℕ) (told : Done) (turns n : ℕ)
    → nat_lt 0 p.attempt.count ≡ false → ((x : Cpu) → progress p.attempt x ≡ resting x)
    → IsLeftOutside need p.image c old new e o → n ≡ length_of i
    → image ≡ cpu_outside n c (outcome_from e c []) → w ≡ waiting_outside image.prefix n e p.waiting
    → turns ≡ delay_given i p.image → told ≡ told_of image.state turns
    → ◌≡◌ {A = Executed} (record {
      after = beside
          (record p { image = image; waiting = w }) new;
      told = told;
    })
    (done_outside i (beside p old) (outside i need (beside p old) o))
outside-is p i need o e c image w old new told turns n live rests left en ei ew ed et =
    outside-by p i need o c image w old new told turns live rests left.image
    (ei ∙ (λ j. cpu_outside (en j) c (outcome_from (left.told j) c [])))
    (ew ∙ (λ j. waiting_outside image.prefix (en j) (left.told j) p.waiting)) left.storage ed et
