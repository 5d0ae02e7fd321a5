-- The fate of the next instruction depends on the bytes of text alone.
use Rattle.std.proofs.Common.{◌≡◌, ℕ, Bool, true, false, List, Option, Some, None, refl, sym}
use Rattle.std.proofs.Common.{ap}
use Rattle.std.proofs.Common.{◌∙◌}
use Rattle.std.specs.Prelude.{◌%◌, nat_eq, unwrap_or}
use Rattle.z_regs.specs.Prefix.{absolute_of}
use Rattle.z_instr.specs.declared.instr.Instr.{Instr}
use Rattle.z_instr.specs.Computing.{reading_of}
use Rattle.z_instr.specs.Layout.{length_by}
use Rattle.z_instr.specs.Operands.{from_up, where_wrong, specification, operation}
use Rattle.z_instr.specs.Access.{accessible_pages, text_pages, byte_unfetched, unfetched}
use Rattle.tx_serial.specs.Flat.{Storage, bytes_seen}
use Rattle.tx_serial.specs.Fate.{Fate, Excepts, fate_after, length_at, instruction_at}
use Rattle.tx_serial.specs.Alike.{AgreeInText}
use Rattle.tx_progress.specs.Progress.{Progress, seen_through}
use Rattle.tx_progress.specs.Trial.{at_hand, fetched, fate_by_progress}
use Rattle.tx_serial.proofs.Frame.{seen_alike, in_text, fetched_text, blocked}

-- ---- the fetch

-- ---- the fate

refused_alike : (text : List ℕ) (s t : Storage) (q : Progress) (b : Bool) (wrong code : ℕ) (i j : Option
    Instr)
    → fetched text t q (where_wrong b wrong (Some code)) i ≡ fetched text s q (where_wrong b wrong (Some
    code)) j
refused_alike text s t q true wrong code i j = refl
refused_alike text s t q false wrong code i j = refl

-- the fate of bytes that read as no instruction, by their number
abbrev unreadable_fate : Progress → ℕ → Fate
unreadable_fate q n = fate_after q.nest (Excepts record { code = operation; fetch = false; length = n })

read_alike : (text : List ℕ) (s t : Storage) (q : Progress) (i : Option Instr)
    → length_at (at_hand t q) ≡ length_at (at_hand s q) → fetched text t q None i ≡ fetched text s q None i
read_alike text s t q None e = ap (λ n. unreadable_fate q n) e
read_alike text s t q (Some i) e = refl

fetched_alike : (text : List ℕ) (s t : Storage) (q : Progress) (n : ℕ) (u : Option ℕ)
    → unfetched (accessible_pages q.cpu.prefix) (text_pages q.cpu.prefix text) q.cpu.address n ≡ u
    → length_at (at_hand t q) ≡ length_at (at_hand s q)
    → AgreeInText q.cpu.prefix text (seen_through q.overlay s) (seen_through q.overlay t)
    → fetched text t q u (reading_of (bytes_seen q.cpu.prefix (seen_through q.overlay t) q.cpu.address n))
    ≡ fetched text s q u (reading_of (bytes_seen q.cpu.prefix (seen_through q.overlay s) q.cpu.address n))
fetched_alike text s t q n (Some code) h e agree = refl
fetched_alike text s t q n None h e agree =
    ap (λ bs. fetched text t q None (reading_of bs))
    (seen_alike q.cpu.prefix (seen_through q.overlay s) (seen_through q.overlay t) (from_up q.cpu.address n)
    (λ x m. agree x (fetched_text (accessible_pages q.cpu.prefix) (text_pages q.cpu.prefix text)
    q.cpu.address n h x m)))
    ∙ read_alike text s t q (reading_of (bytes_seen q.cpu.prefix (seen_through q.overlay s) q.cpu.address n))
    e

fate_alike_by : (text : List ℕ) (s t : Storage) (q : Progress) (o : Option ℕ)
    → byte_unfetched (accessible_pages q.cpu.prefix) (text_pages q.cpu.prefix text) q.cpu.address ≡ o
    → AgreeInText q.cpu.prefix text (seen_through q.overlay s) (seen_through q.overlay t)
    → fate_by_progress text t q ≡ fate_by_progress text s q
unfolding fate_by_progress
fate_alike_by text s t q (Some code) e agree =
    let accessible = accessible_pages q.cpu.prefix in
    let pages = text_pages q.cpu.prefix text in
    let a = q.cpu.address in
    let i = instruction_at (at_hand t q) in
    let j = instruction_at (at_hand s q) in
    ap (λ u. fetched text t q u i) (blocked accessible pages a (seen_through q.overlay t (absolute_of
    q.cpu.prefix a)) code e)
    ∙ refused_alike text s t q (nat_eq (a % 2) 1) specification code i j
    ∙ sym (ap (λ u. fetched text s q u j) (blocked accessible pages a (seen_through q.overlay s (absolute_of
    q.cpu.prefix a)) code e))
fate_alike_by text s t q None e agree =
    let accessible = accessible_pages q.cpu.prefix in
    let pages = text_pages q.cpu.prefix text in
    let a = q.cpu.address in
    let same : length_at (at_hand t q) ≡ length_at (at_hand s q) =
    ap length_by (agree a (in_text accessible pages a e)) in
    ap (λ n. fetched text t q (unfetched accessible pages a n) (reading_of (bytes_seen q.cpu.prefix
    (seen_through q.overlay t) a n))) same
    ∙ fetched_alike text s t q (length_at (at_hand s q)) (unfetched accessible pages a (length_at (at_hand s
    q)))
    refl same agree

-- seen through one overlay, storages agree where they do
pub fate_by_progress-alike : (text : List ℕ) (s t : Storage) (q : Progress)
    → AgreeInText q.cpu.prefix text s t → fate_by_progress text t q ≡ fate_by_progress text s q
fate_by_progress-alike text s t q agree =
    let prefix = q.cpu.prefix in
    fate_alike_by text s t q (byte_unfetched (accessible_pages prefix) (text_pages prefix text)
    q.cpu.address) refl
    (λ a h. ap (unwrap_or (q.overlay (absolute_of prefix a))) (agree a h))
