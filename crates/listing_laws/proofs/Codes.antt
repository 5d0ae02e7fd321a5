-- The bytes of the instructions that the generator writes.
use Rattle.std.proofs.Common.{◌≡◌, ℕ, ◌+◌, ◌<◌, ◌^◌, true, false, not, ◌&&◌}
use Rattle.std.proofs.Common.{List, [], ◌∷◌}
use Rattle.std.proofs.Common.{Some, None, refl, ap, ◌∙◌, arith, lt-ltb, lit<}
use Rattle.std.specs.Prelude.{ℤ, pos, negsuc, ◌-ℤ◌, Ok, Err, if◌then◌else◌, codes}
use Rattle.std.specs.Prelude.{option_and_then}
use Rattle.std.specs.List.{list_any}
use Rattle.std.proofs.lemmas.Int.{ints}
use Rattle.z_instr.specs.declared.form.Slot.TheVariants as slot
use Rattle.z_instr.specs.declared.instr.Fields.{Fields}
use Rattle.z_instr.specs.Forms.{slots}
use Rattle.z_instr.specs.Made.{no_fields}
use Rattle.z_instr.specs.Ranges.{is_within, bounds}
use Rattle.z_instr.specs.Table.{Entry, table, entry_at}
use Rattle.z_instr.proofs.Named.{number_of}
use Rattle.z_fields.specs.Chain.{◌>>=◌}
use Rattle.z_operands.specs.Code.{code_of, code_for}
use Rattle.z_operands.specs.Operands.{with_slot, instruction_in, has_form, lacks_value, fields_from}
use Rattle.z_operands.specs.Operands.{allowed, are_allowed, half, jump, immediate}
use Rattle.z_operands.specs.Operations.{operation_named, directive_named, row_named, size_of_row}
use Rattle.z_fields.specs.declared.fault.Kind.TheVariants.{OutOfRange, UnknownLabel, WrongOperands}
use Rattle.z_operands.specs.declared.operand.Operand.{Operand}
use Rattle.z_operands.specs.declared.operand.Operand.TheVariants.{Plain}
use Rattle.z_operands.specs.declared.operation.Operation.TheVariants.{Instruction, Cpu, Show, End}
use Rattle.listing_laws.proofs.Given.{goes, ends, first_slot, immediate_slot, immediate_is, fields}

abbrev pub plain : ℤ → Operand
plain z = Plain (Some z)

-- ---- the rows of the generator's instructions

unfoldable pub lghi : ℕ
lghi = number_of (codes "LGHI")

unfoldable pub tbeginc : ℕ
tbeginc = number_of (codes "TBEGINC")

unfoldable pub lg : ℕ
lg = number_of (codes "LG")

unfoldable pub aghi : ℕ
aghi = number_of (codes "AGHI")

unfoldable pub stg : ℕ
stg = number_of (codes "STG")

unfoldable pub tend : ℕ
tend = number_of (codes "TEND")

unfoldable pub brctg : ℕ
brctg = number_of (codes "BRCTG")

unfoldable pub svc : ℕ
svc = number_of (codes "SVC")

-- bytes come of operands of the right form with allowed fields
pub coded : (e : Entry) (here : ℕ) (os : List Operand) (f : Fields) → has_form (slots e.form) os ≡ true
    → list_any lacks_value os ≡ false
    → fields_from here (slots e.form) os no_fields ≡ Some f → are_allowed e f ≡ true → code_for e None here os ≡
    Ok (code_of e f)
unfolding instruction_in
coded e here os f form known given allows =
    ap (λ b. (if not b then Err WrongOperands else (if list_any lacks_value os then Err UnknownLabel else
    allowed e (fields_from here (slots e.form) os no_fields))) >>= λ g. Ok (code_of e g)) form
    ∙ ap (λ b. (if b then Err UnknownLabel else allowed e (fields_from here (slots e.form) os no_fields)) >>= λ
    g. Ok (code_of e g)) known
    ∙ ap (λ o. allowed e o >>= λ g. Ok (code_of e g)) given
    ∙ ap (λ b. (if b then Ok f else Err OutOfRange) >>= λ g. Ok (code_of e g)) allows

abbrev pub HasCode : ℕ → ℕ → List Operand → Type 0
HasCode row here os = (bytes : List ℕ) × (code_for (entry_at row) None here os ≡ Ok bytes)

-- ---- names and sizes

pub lghi_is : operation_named (codes "LGHI") ≡ Some (Instruction lghi None)
unfolding operation_named directive_named row_named table lghi number_of
lghi_is = refl

pub tbeginc_is : operation_named (codes "TBEGINC") ≡ Some (Instruction tbeginc None)
unfolding operation_named directive_named row_named table tbeginc number_of
tbeginc_is = refl

pub lg_is : operation_named (codes "LG") ≡ Some (Instruction lg None)
unfolding operation_named directive_named row_named table lg number_of
lg_is = refl

pub aghi_is : operation_named (codes "AGHI") ≡ Some (Instruction aghi None)
unfolding operation_named directive_named row_named table aghi number_of
aghi_is = refl

pub stg_is : operation_named (codes "STG") ≡ Some (Instruction stg None)
unfolding operation_named directive_named row_named table stg number_of
stg_is = refl

pub tend_is : operation_named (codes "TEND") ≡ Some (Instruction tend None)
unfolding operation_named directive_named row_named table tend number_of
tend_is = refl

pub brctg_is : operation_named (codes "BRCTG") ≡ Some (Instruction brctg None)
unfolding operation_named directive_named row_named table brctg number_of
brctg_is = refl

pub svc_is : operation_named (codes "SVC") ≡ Some (Instruction svc None)
unfolding operation_named directive_named row_named table svc number_of
svc_is = refl

pub cpu_is : operation_named (codes "CPU") ≡ Some Cpu
unfolding operation_named directive_named row_named table
cpu_is = refl

pub show_is : operation_named (codes "SHOW") ≡ Some Show
unfolding operation_named directive_named row_named table
show_is = refl

pub end_is : operation_named (codes "END") ≡ Some End
unfolding operation_named directive_named row_named table
end_is = refl

pub sizes_are : (size_of_row lghi ≡ 4) × (size_of_row tbeginc ≡ 6) × (size_of_row lg ≡ 6) × (size_of_row aghi ≡ 4)
    × (size_of_row stg ≡ 6) × (size_of_row tend ≡ 4) × (size_of_row brctg ≡ 4) × (size_of_row svc ≡ 2)
unfolding entry_at table lghi tbeginc lg aghi stg tend brctg svc number_of
sizes_are = (refl, refl, refl, refl, refl, refl, refl, refl)

-- ---- the codes

-- a register and an immediate of a halfword
pub lghi_code : (here n : ℕ) → n < 32768 → HasCode lghi here (plain (pos 2) ∷ plain (pos n) ∷ [])
unfolding entry_at table lghi number_of
lghi_code here n few =
    let fits : is_within (bounds (2 ^ 31) (2 ^ 32)) (pos n) ≡ true = lt-ltb n (2 ^ 32) (omega arith) in
    let one = fields 2 0 0 0 0 (pos 0) 0 (pos 0) (pos 0) 0 in
    let both = fields 2 0 0 0 0 (pos 0) 0 (pos 0) (pos n) 0 in (
      code_of (entry_at lghi) both,
      coded (entry_at lghi) here (plain (pos 2) ∷ plain (pos n) ∷ []) both refl
          refl
          (goes here _ _ _ _ no_fields one (first_slot here 2 no_fields (lit< tt)) ∙ goes here _ _ _ _ one
          both
          (immediate_slot here (pos n) one (immediate_is (pos n) fits)) ∙ ends here both)
          (lt-ltb n 32768 few),
    )

pub tbeginc_code : (here : ℕ) → HasCode tbeginc here (plain (pos 0) ∷ plain (pos 65280) ∷ [])
unfolding entry_at table fields_from tbeginc number_of
tbeginc_code here =
    let f = fields 0 0 0 0 0 (pos 0) 0 (pos 0) (pos 65280) 0 in (
      code_of (entry_at tbeginc) f,
      coded (entry_at tbeginc) here (plain (pos 0) ∷ plain (pos 65280) ∷ []) f refl refl
          refl refl,
    )

pub aghi_code : (here : ℕ) → HasCode aghi here (plain (pos 1) ∷ plain (pos 1) ∷ [])
unfolding entry_at table fields_from aghi number_of
aghi_code here =
    let f = fields 1 0 0 0 0 (pos 0) 0 (pos 0) (pos 1) 0 in (
      code_of (entry_at aghi) f,
      coded (entry_at aghi) here (plain (pos 1) ∷ plain (pos 1) ∷ []) f refl refl
          refl refl,
    )

pub tend_code : (here : ℕ) → HasCode tend here []
unfolding entry_at table fields_from tend number_of
tend_code here = (
  code_of (entry_at tend) no_fields,
  coded (entry_at tend) here [] no_fields refl refl refl
      refl,
)

pub svc_code : (here : ℕ) → HasCode svc here (plain (pos 0) ∷ [])
unfolding entry_at table fields_from svc number_of
svc_code here = (
  code_of (entry_at svc) no_fields,
  coded (entry_at svc) here (plain (pos 0) ∷ []) no_fields
      refl refl refl refl,
)

-- register 1 and an address without registers
one_address : (here a : ℕ) → a < 524288 → (with_slot here slot.Indexed (plain (pos a)) (fields 1 0 0 0 0 (pos
    0) 0 (pos 0) (pos 0) 0)) ≡ Some (fields 1 0 0 0 0 (pos a) 0 (pos 0) (pos 0) 0)
one_address here a few = ap (λ b. option_and_then (λ d. Some (fields 1 0 0 0 0 d 0 (pos 0) (pos 0) 0)) (if b
    then Some (pos a) else None)) (lt-ltb a 524288 few)

pub lg_code : (here a : ℕ) → a < 524288 → HasCode lg here (plain (pos 1) ∷ plain (pos a) ∷ [])
unfolding entry_at table lg number_of
lg_code here a few =
    let one = fields 1 0 0 0 0 (pos 0) 0 (pos 0) (pos 0) 0 in
    let both = fields 1 0 0 0 0 (pos a) 0 (pos 0) (pos 0) 0 in (
      code_of (entry_at lg) both,
      coded (entry_at lg) here (plain (pos 1) ∷ plain (pos a) ∷ []) both refl refl
          (goes here _ _ _ _ no_fields one (first_slot here 1 no_fields (lit< tt)) ∙ goes here _ _ _ _ one
          both
          (one_address here a few) ∙ ends here both)
          (ap (λ b. b && true) (lt-ltb a 524288 few)),
    )

pub stg_code : (here a : ℕ) → a < 524288 → HasCode stg here (plain (pos 1) ∷ plain (pos a) ∷ [])
unfolding entry_at table stg number_of
stg_code here a few =
    let one = fields 1 0 0 0 0 (pos 0) 0 (pos 0) (pos 0) 0 in
    let both = fields 1 0 0 0 0 (pos a) 0 (pos 0) (pos 0) 0 in (
      code_of (entry_at stg) both,
      coded (entry_at stg) here (plain (pos 1) ∷ plain (pos a) ∷ []) both refl refl
          (goes here _ _ _ _ no_fields one (first_slot here 1 no_fields (lit< tt)) ∙ goes here _ _ _ _ one
          both
          (one_address here a few) ∙ ends here both)
          (ap (λ b. b && true) (lt-ltb a 524288 few)),
    )

-- a branch thirteen halfwords back
back : (here : ℕ) → here + 26 < 2 ^ 32 → jump (here + 26) (pos here) ≡ Some (negsuc 12)
back here low =
    let apart : pos here -ℤ pos (here + 26) ≡ negsuc 25 = omega (arith, ints) in
    ap (λ b. if b then option_and_then immediate (half (pos here -ℤ pos (here + 26))) else None) (lt-ltb here
    (2 ^ 33) (omega arith))
    ∙ ap (λ z. option_and_then immediate (half z)) apart

pub brctg_code : (here : ℕ) → here + 26 < 2 ^ 32 → HasCode brctg (here + 26) (plain (pos 2) ∷ plain (pos here)
    ∷ [])
unfolding entry_at table brctg number_of
brctg_code here low =
    let one = fields 2 0 0 0 0 (pos 0) 0 (pos 0) (pos 0) 0 in
    let both = fields 2 0 0 0 0 (pos 0) 0 (pos 0) (negsuc 12) 0 in (
      code_of (entry_at brctg) both,
      coded (entry_at brctg) (here + 26) (plain (pos 2) ∷ plain (pos here) ∷ [])
          both refl refl
          (goes (here + 26) _ _ _ _ no_fields one (first_slot (here + 26) 2 no_fields (lit< tt))
          ∙ goes (here + 26) _ _ _ _ one both (ap (option_and_then (λ i. Some (record one { imm = i })))
          (back here
          low)) ∙ ends (here + 26) both)
          refl,
    )
