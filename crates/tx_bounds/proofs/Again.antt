-- A constrained transaction that is aborted begins again: whether its begin goes depends on the text, the
-- prefix and
-- the address alone.
use Rattle.std.proofs.Common.{◌≡◌, ℕ, true, List, [], ◌∷◌, Option, None, refl, sym, ap, ◌∙◌}
use Rattle.std.proofs.Common.{subst}
use Rattle.std.specs.Prelude.{not, map}
use Rattle.std.specs.List.{list_all, list_any}
use Rattle.z_regs.specs.Cpu.{Cpu}
use Rattle.z_regs.specs.declared.ranges.Range.{Range}
use Rattle.z_instr.specs.declared.instr.Instr.{Instr}
use Rattle.z_instr.specs.declared.operand.Demand.{Demand}
use Rattle.z_instr.specs.declared.operand.Demand.TheVariants.{BeginConstrained}
use Rattle.z_instr.specs.Table.{Entry, entry_at}
use Rattle.z_instr.specs.Roles.{begins}
use Rattle.z_instr.specs.Access.{accessible_pages, text_pages}
use Rattle.z_instr.specs.Operands.{Span, spans_in, unspecified_in, inaccessible_in, tested_spans}
use Rattle.z_instr.specs.Operands.{is_inside, is_stored_into, is_refused_service, where_wrong}
use Rattle.z_instr.specs.Operands.{addressing, protection, operation}
use Rattle.tx_serial.specs.Refusals.{range_of}
use Rattle.tx_serial.specs.Flat.{Storage}
use Rattle.tx_serial.specs.Attempt.{Run, at_rest}
use Rattle.tx_serial.specs.Fate.{Goes, Passes, Refusal, fate, tests, first_refusal, excepted, depth_refusal}
use Rattle.tx_serial.specs.Alike.{AgreeInText}
use Rattle.tx_serial.proofs.Frame.{fate_alike}
use Rattle.tx_serial.proofs.Passing.{passes, goes_where_passes}
use Rattle.tx_serial.proofs.FreeOperands.{begin_bare}

abbrev pub IsConstrainedBegin : Instr → Type 0
IsConstrainedBegin i = (entry_at i.op.number).demand ≡ BeginConstrained

pub is_begin : (i : Instr) → IsConstrainedBegin i → begins (entry_at i.op.number) ≡ true
is_begin i e = ap (λ d. begins (record (entry_at i.op.number) { demand = d })) e

none_of : (ss : List Span) → map range_of ss ≡ [] → ss ≡ []
none_of [] e = refl
none_of (s ∷ rest) e = let n : range_of s ∷ map range_of rest ≡ [] = e in cc

no_spans : (i : Instr) (c : Cpu) → IsConstrainedBegin i
    → spans_in (entry_at i.op.number).operands i c.general c.condition ≡ []
no_spans i c e = none_of _ (begin_bare i c (is_begin i e))

specified_alike : (e : Entry) (i : Instr) (g h : List ℕ) (depth : ℕ) → e.demand ≡ BeginConstrained
    → unspecified_in e.demand e.operands i g depth ≡ unspecified_in e.demand e.operands i h depth
unfolding unspecified_in
specified_alike e i g h depth is =
    subst (λ d. unspecified_in d e.operands i g depth ≡ unspecified_in d e.operands i h depth) (sym is) refl

abbrev tested : Instr → List ℕ → List ℕ → List ℕ → Demand → List Span → Option ℕ
tested i general accessible text d ss =
    where_wrong (not (list_all (is_inside accessible) (tested_spans d ss i general 0))) addressing
    (where_wrong (list_any (is_stored_into text) (tested_spans d ss i general 0)) protection
    (where_wrong (is_refused_service d i) operation None))

accessible_alike : (e : Entry) (i : Instr) (g h : List ℕ) (code other : ℕ) (accessible text : List ℕ)
    → e.demand ≡ BeginConstrained → spans_in e.operands i g code ≡ [] → spans_in e.operands i h other ≡ []
    → inaccessible_in e i g code 0 accessible text ≡ inaccessible_in e i h other 0 accessible text
unfolding inaccessible_in
accessible_alike e i g h code other accessible text is none none_again =
    ap (λ ss. tested i g accessible text e.demand ss) none
    ∙ ap (λ d. tested i g accessible text d []) is
    ∙ sym (ap (λ d. tested i h accessible text d []) is)
    ∙ sym (ap (λ ss. tested i h accessible text e.demand ss) none_again)

-- the same CPU with other registers, condition code, mask and state
abbrev with_others : Cpu → Cpu → Cpu
with_others c d = record c {
  general = d.general;
  access = d.access;
  condition = d.condition;
  mask = d.mask;
  state = d.state;
}

-- of the tests at rest, those that can refuse a begin
abbrev tests_at_rest : Run → Instr → Option ℕ → Option ℕ → List (Option Refusal)
tests_at_rest p i unspecified inaccessible =
    None ∷ None ∷ excepted i unspecified ∷ depth_refusal p i ∷ excepted i inaccessible ∷ None ∷ None ∷ []

tests_alike : (text : List ℕ) (s : Storage) (c d : Cpu) (i : Instr) → IsConstrainedBegin i
    → tests text (at_rest s (with_others c d)) i ≡ tests text (at_rest s c) i
tests_alike text s c d i is =
    let e = entry_at i.op.number in
    let p = at_rest s c in
    let pages = accessible_pages c.prefix in
    let texts = text_pages c.prefix text in
    ap (λ u. tests_at_rest p i u (inaccessible_in e i d.general d.condition 0 pages texts))
    (specified_alike e i d.general c.general 0 is)
    ∙ ap (tests_at_rest p i (unspecified_in e.demand e.operands i c.general 0))
    (accessible_alike e i d.general c.general d.condition c.condition pages texts is
    (no_spans i (with_others c d) is) (no_spans i c is))

goes_with_others : (text : List ℕ) (s : Storage) (c d : Cpu) (i : Instr) (ranges : List Range)
    → IsConstrainedBegin i → fate text (at_rest s c) ≡ Goes i ranges
    → fate text (at_rest s (with_others c d)) ≡ Goes i []
goes_with_others text s c d i ranges is goes =
    let p : Passes text (at_rest s c) i ranges = passes text (at_rest s c) i ranges goes in
    goes_where_passes text (at_rest s (with_others c d)) i [] (record {
      fetched = p.fetched;
      reads = p.reads;
      passed = ap first_refusal (tests_alike text s c d i is) ∙ p.passed;
      touches = sym (begin_bare i (with_others c d) (is_begin i is));
    })

same_place : (c d : Cpu) → d.prefix ≡ c.prefix → d.address ≡ c.address → with_others c d ≡ d
same_place c d prefix address k = record {
  general = d.general;
  access = d.access;
  address = (sym address) k;
  condition = d.condition;
  mask = d.mask;
  state = d.state;
  prefix = (sym prefix) k;
}

pub goes_again : (text : List ℕ) (s t : Storage) (c d : Cpu) (i : Instr) (ranges : List Range)
    → IsConstrainedBegin i → d.prefix ≡ c.prefix → d.address ≡ c.address → AgreeInText c.prefix text s t
    → fate text (at_rest s c) ≡ Goes i ranges → fate text (at_rest t d) ≡ Goes i []
goes_again text s t c d i ranges is prefix address agree goes =
    subst (λ x. fate text (at_rest t x) ≡ Goes i []) (same_place c d prefix address)
    (fate_alike text (at_rest s (with_others c d)) t agree ∙ goes_with_others text s c d i ranges is goes)
