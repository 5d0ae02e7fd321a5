-- An instruction that was read before goes where it passes each test, on a CPU without a prefix.
use Rattle.std.proofs.Common.{◌≡◌, ℕ, ◌+◌, ◌*◌, ◌/◌, true, false, List, ◌∷◌, []}
use Rattle.std.proofs.Common.{Some, None, sym, ap, ◌∙◌, arith, length}
use Rattle.std.specs.Prelude.{◌&&◌, not, nat_eq, nat_lt}
use Rattle.std.specs.List.{list_any, list_all}
use Rattle.std.proofs.Math.Bool.{and-false}
use Rattle.z_regs.specs.Cpu.{Cpu}
use Rattle.z_regs.specs.Prefix.{absolute_of}
use Rattle.z_regs.specs.Absolute.{absolute_ranges}
use Rattle.z_regs.specs.declared.ranges.Range.{Range}
use Rattle.z_instr.specs.Operands.{Span, where_wrong, addressing, protection, operation, unspecified}
use Rattle.z_instr.specs.Operands.{is_inside, is_stored_into, inaccessible}
use Rattle.z_instr.specs.Access.{accessible_pages, text_pages, unfetched}
use Rattle.z_touch.proofs.SmallRanges.{any-text_pages}
use Rattle.tx_constraint.specs.Kept.{next_operand_breach}
use Rattle.tx_control.specs.declared.causes.Why.TheVariants.{Depth, Restricted}
use Rattle.tx_footprint.specs.Touched.{touching}
use Rattle.tx_journal.specs.Image as image
use Rattle.tx_serial.specs.Fate.{Goes, first_refusal, excepted, aborts_where, operands, fetch_refusal}
use Rattle.tx_serial.specs.Fate.{instruction_at, overflow_in}
use Rattle.tx_progress.specs.Progress.{Progress}
use Rattle.tx_progress.specs.Trial.{at_hand, fate_by_progress, place_refusal_by, overflow_refusal_by}
use Rattle.tx_progress.specs.Trial.{constraint_refusal}
use Rattle.tx_program.specs.Shapes.{IsReady}
use Rattle.tx_program.specs.declared.ready.Ready.{Ready}
use Rattle.tx_attempt.specs.Plain.{IsPlain}
use Rattle.tx_attempt.specs.Storages.{storage_of}
use Rattle.tx_cpu.specs.Admits.{Admits}
use Rattle.tx_cpu.proofs.Programs.{plain_length, plain_reading}
use Rattle.tx_cpu.proofs.Tests.{heads, tails, planned-read, tried-goes}

-- a page is a text page as such a CPU sees it where it is one, and lies in storage
text-page : (text : List ℕ) (page : ℕ)
    → list_any (nat_eq page) (text_pages None text) ≡ (nat_lt page 256 && list_any (nat_eq page) text)
text-page text page =
    let same : page * 4096 / 4096 ≡ page = omega arith in
    any-text_pages None text page ∙ ap (λ p. nat_lt page 256 && list_any (nat_eq p) text) same

pub open-page : (text : List ℕ) (page : ℕ) → list_any (nat_eq page) text ≡ false
    → list_any (nat_eq page) (text_pages None text) ≡ false
open-page text page h =
    text-page text page ∙ ap (λ b. nat_lt page 256 && b) h ∙ and-false (nat_lt page 256)

pub closed-page : (text : List ℕ) (page : ℕ) → nat_lt page 256 ≡ true → list_any (nat_eq page) text ≡ true
    → list_any (nat_eq page) (text_pages None text) ≡ true
closed-page text page low h = text-page text page ∙ (λ k. low k && h k)

-- operands that such a CPU may touch: all lie in storage, and nothing is stored into a text page
pub record ArePassed (text : List ℕ) (ss : List Span) : Type 0 where
  pub inside : list_all (is_inside (accessible_pages None)) ss ≡ true
  pub apart : list_any (is_stored_into (text_pages None text)) ss ≡ false

pub tests-pass : (text : List ℕ) (ss : List Span) → ArePassed text ss
    → where_wrong (not (list_all (is_inside (accessible_pages None)) ss)) addressing
    (where_wrong (list_any (is_stored_into (text_pages None text)) ss) protection
    (where_wrong false operation None)) ≡ None
tests-pass text ss p =
    λ k. where_wrong (not (p.inside k)) addressing
    (where_wrong (p.apart k) protection (where_wrong false operation None))

-- an attempt goes on by an instruction that it admits, which is fetched and has these operands
module _ (text bytes : List ℕ) (q : Progress) (r : Ready) (need : List Range) (bare : q.cpu.prefix ≡ None)
    (ready : IsReady bytes text q.cpu.address r) (lets : Admits q r.instr need)
    (fetched : unfetched (accessible_pages None) (text_pages None text) q.cpu.address
    (image.length_at bytes q.cpu.address) ≡ None)
    (touches : need ≡ operands r.instr q.cpu)
    (specified : unspecified r.instr q.cpu.general (length q.nest) ≡ None)
    (usable : inaccessible r.instr q.cpu.general q.cpu.condition (length q.nest) (accessible_pages None)
    (text_pages None text) ≡ None) where
  abbrev c : Cpu
  c = q.cpu

  plain-bytes : IsPlain q.overlay c.prefix c.address c.address
  plain-bytes = record {
    ends = ready.ends;
    there = λ k lt. ap (λ p. absolute_of p (c.address + k)) bare;
    bare = lets.bare;
  }

  fetches : fetch_refusal text (at_hand (storage_of bytes) q) ≡ None
  fetches =
      ap (unfetched (accessible_pages c.prefix) (text_pages c.prefix text) c.address)
      (sym (plain_length q bytes c.address plain-bytes))
      ∙ ap (λ p. unfetched (accessible_pages p) (text_pages p text) c.address (image.length_at bytes c.address)) bare
      ∙ fetched

  reads : instruction_at (at_hand (storage_of bytes) q) ≡ Some r.instr
  reads = sym (plain_reading q bytes c.address ready.size plain-bytes) ∙ ready.read

  no-heads : None ≡ first_refusal (heads (storage_of bytes) q r.instr)
  no-heads =
      let passed : first_refusal (heads (storage_of bytes) q r.instr) ≡ None =
      λ k. first_refusal (lets.text k ∷ aborts_where (lets.allowed k) Restricted
      ∷ excepted r.instr (specified k) ∷ aborts_where (lets.shallow k) Depth ∷ []) in
      sym passed

  there : inaccessible r.instr c.general c.condition (length q.nest) (accessible_pages c.prefix)
      (text_pages c.prefix text) ≡ None
  there =
      ap (λ p. inaccessible r.instr c.general c.condition (length q.nest) (accessible_pages p) (text_pages p text))
      bare ∙ usable

  place : place_refusal_by q r.instr ≡ None
  place =
      ap (λ (rs : List Range). constraint_refusal (λ kept. next_operand_breach kept r.instr rs) r.instr q.constraint)
      (sym touches) ∙ lets.place

  room : overflow_refusal_by q r.instr ≡ None
  room =
      ap (λ (rs : List Range). overflow_in q.nest (touching q.footprint (absolute_ranges c.prefix rs))) (sym touches)
      ∙ lets.fits

  no-tails : None ≡ first_refusal (tails text (storage_of bytes) q r.instr)
  no-tails =
      let passed : first_refusal (tails text (storage_of bytes) q r.instr) ≡ None =
      λ k. first_refusal (excepted r.instr (there k) ∷ place k ∷ room k ∷ []) in
      sym passed

  pub passing-goes : fate_by_progress text (storage_of bytes) q ≡ Goes r.instr need
  passing-goes =
      sym (planned-read text (storage_of bytes) q r.instr (Goes r.instr need) fetches reads
      (tried-goes q r.instr (heads (storage_of bytes) q r.instr) (tails text (storage_of bytes) q r.instr) need
      no-heads no-tails touches))
