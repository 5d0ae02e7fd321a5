-- What each transaction instruction leaves.
use Rattle.std.proofs.Common.{◌≡◌, ap, ◌∙◌, arith, take, List, ℕ}
use Rattle.z_regs.specs.Cpu.{cpu_of}
use Rattle.z_effect.specs.One.{length_of}
use Rattle.z_effect.specs.Outcome.{Did}
use Rattle.z_instr.specs.Layout.{form_length}
use Rattle.z_instr.specs.Table.{Entry}
use Rattle.z_effect.specs.After.{cpu_after}
use Rattle.z_effect.specs.TransactionEffect.{transaction_effect}
use Rattle.tx_attempt.specs.Performed.{lasting_size}
use Rattle.tx_attempt.proofs.Effects.{aborting-value, lasting-value, completed-value, has_no_store}
use Rattle.tx_attempt.proofs.performing.execute_transaction.Goals as goal

pub returns-in-Abort-clause-value : goal.returns-in-Abort-clause-value
returns-in-Abort-clause-value c =
    aborting-value c.args.kind (length_of c.args.instr.now) c.args.instr.now (cpu_of c.args.image.now)
    c.args.depth _ c.in-Abort.is c.first_address-abort_code.ensures

pub write_u64-requires : goal.write_u64-requires
write_u64-requires c =
    let eight : lasting_size c.args.kind ≡ 8 = ap lasting_size c.in-StoreLasting.is in
    omega (arith, eight, c.requires.room)

pub returns-in-StoreLasting-clause-value : goal.returns-in-StoreLasting-clause-value
returns-in-StoreLasting-clause-value c =
    let i = c.args.instr.now in
    let cpu = cpu_of c.args.image.now in
    let length : c.length_in-length.result ≡ length_of i =
    c.length_in-length.ensures ∙ ap (λ (e : Entry). form_length e.form) c.line.ensures.row in
    let left : cpu_of c.transact.new.image ≡ cpu_after cpu
    (transaction_effect c.args.kind (length_of i) i cpu c.args.depth) =
    c.transact.ensures ∙ ap (λ n. cpu_after cpu (transaction_effect c.args.kind n i cpu c.args.depth)) length
    in
    ap (λ (bs : List ℕ). Did (cpu_of c.transact.new.image) (take (lasting_size c.args.kind) bs))
    c.write_u64.ensures
    ∙ lasting-value c.args.kind (length_of c.args.instr.now) c.args.instr.now (cpu_of c.args.image.now)
    (cpu_of c.transact.new.image) c.args.depth c.register-source.result c.args.stored.now c.in-StoreLasting.is
    c.register-source.ensures left

pub returns-in-Begin-clause-value : goal.returns-in-Begin-clause-value
returns-in-Begin-clause-value c =
    let i = c.args.instr.now in
    let cpu = cpu_of c.args.image.now in
    let length : c.length_in-length.result ≡ length_of i =
    c.length_in-length.ensures ∙ ap (λ (e : Entry). form_length e.form) c.line.ensures.row in
    let left : cpu_of c.transact.new.image ≡ cpu_after cpu
    (transaction_effect c.args.kind (length_of i) i cpu c.args.depth) =
    c.transact.ensures ∙ ap (λ n. cpu_after cpu (transaction_effect c.args.kind n i cpu c.args.depth)) length
    in
    completed-value c.args.kind (length_of c.args.instr.now) c.args.instr.now (cpu_of c.args.image.now)
    (cpu_of c.transact.new.image) c.args.depth c.args.stored.now (ap has_no_store c.in-Begin.is) left

pub returns-in-BeginConstrained-clause-value : goal.returns-in-BeginConstrained-clause-value
returns-in-BeginConstrained-clause-value c =
    let i = c.args.instr.now in
    let cpu = cpu_of c.args.image.now in
    let length : c.length_in-length.result ≡ length_of i =
    c.length_in-length.ensures ∙ ap (λ (e : Entry). form_length e.form) c.line.ensures.row in
    let left : cpu_of c.transact.new.image ≡ cpu_after cpu
    (transaction_effect c.args.kind (length_of i) i cpu c.args.depth) =
    c.transact.ensures ∙ ap (λ n. cpu_after cpu (transaction_effect c.args.kind n i cpu c.args.depth)) length
    in
    completed-value c.args.kind (length_of c.args.instr.now) c.args.instr.now (cpu_of c.args.image.now)
    (cpu_of c.transact.new.image) c.args.depth c.args.stored.now (ap has_no_store c.in-BeginConstrained.is)
    left

pub returns-in-End-clause-value : goal.returns-in-End-clause-value
returns-in-End-clause-value c =
    let i = c.args.instr.now in
    let cpu = cpu_of c.args.image.now in
    let length : c.length_in-length.result ≡ length_of i =
    c.length_in-length.ensures ∙ ap (λ (e : Entry). form_length e.form) c.line.ensures.row in
    let left : cpu_of c.transact.new.image ≡ cpu_after cpu
    (transaction_effect c.args.kind (length_of i) i cpu c.args.depth) =
    c.transact.ensures ∙ ap (λ n. cpu_after cpu (transaction_effect c.args.kind n i cpu c.args.depth)) length
    in
    completed-value c.args.kind (length_of c.args.instr.now) c.args.instr.now (cpu_of c.args.image.now)
    (cpu_of c.transact.new.image) c.args.depth c.args.stored.now (ap has_no_store c.in-End.is) left

pub returns-in-ExtractDepth-clause-value : goal.returns-in-ExtractDepth-clause-value
returns-in-ExtractDepth-clause-value c =
    let i = c.args.instr.now in
    let cpu = cpu_of c.args.image.now in
    let length : c.length_in-length.result ≡ length_of i =
    c.length_in-length.ensures ∙ ap (λ (e : Entry). form_length e.form) c.line.ensures.row in
    let left : cpu_of c.transact.new.image ≡ cpu_after cpu
    (transaction_effect c.args.kind (length_of i) i cpu c.args.depth) =
    c.transact.ensures ∙ ap (λ n. cpu_after cpu (transaction_effect c.args.kind n i cpu c.args.depth)) length
    in
    completed-value c.args.kind (length_of c.args.instr.now) c.args.instr.now (cpu_of c.args.image.now)
    (cpu_of c.transact.new.image) c.args.depth c.args.stored.now (ap has_no_store c.in-ExtractDepth.is) left

pub returns-in-Assist-clause-value : goal.returns-in-Assist-clause-value
returns-in-Assist-clause-value c =
    let i = c.args.instr.now in
    let cpu = cpu_of c.args.image.now in
    let length : c.length_in-length.result ≡ length_of i =
    c.length_in-length.ensures ∙ ap (λ (e : Entry). form_length e.form) c.line.ensures.row in
    let left : cpu_of c.transact.new.image ≡ cpu_after cpu
    (transaction_effect c.args.kind (length_of i) i cpu c.args.depth) =
    c.transact.ensures ∙ ap (λ n. cpu_after cpu (transaction_effect c.args.kind n i cpu c.args.depth)) length
    in
    completed-value c.args.kind (length_of c.args.instr.now) c.args.instr.now (cpu_of c.args.image.now)
    (cpu_of c.transact.new.image) c.args.depth c.args.stored.now (ap has_no_store c.in-Assist.is) left
