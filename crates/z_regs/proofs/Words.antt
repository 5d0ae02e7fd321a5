-- A program status word that is loaded again gives back what it was made of.
use Rattle.std.proofs.Common.{◌≡◌, ◌+◌, ◌*◌, ◌/◌, ◌%◌, [], refl, ap, ◌∙◌, arith}
use Rattle.std.specs.Str.{bytes_eq}
use Rattle.std.proofs.lemmas.Slice.Eq.{bytes_eq-Decides}
use Rattle.byteorder.specs.Endian.{big_number, big_bytes}
use Rattle.byteorder.specs.Numbers.{big_number-reads_back}
use Rattle.z_regs.specs.Cpu.{Cpu}
use Rattle.z_regs.specs.declared.image.RunState.TheVariants.{Running}
use Rattle.z_regs.specs.Psw.{HasFields, psw_of, with_fields, loaded, running_where}

fields_back : (c d : Cpu) → HasFields d →
    with_fields (psw_of d) c ≡ record c { condition = d.condition; mask = d.mask; address = d.address }
unfolding with_fields psw_of
fields_back c d h =
    let code : (d.condition * 16 + d.mask) / 16 % 4 ≡ d.condition = omega (arith, h) in
    let mask : (d.condition * 16 + d.mask) % 16 ≡ d.mask = omega (arith, h) in
    let address : big_number 8 (big_bytes 8 d.address) ≡ d.address =
    big_number-reads_back 8 d.address [] h.address in
    λ i. record c { condition = code i; mask = mask i; address = address i }

-- the word of a CPU with other fields is that of these fields
own_word : (c d : Cpu) →
    psw_of (record c { condition = d.condition; mask = d.mask; address = d.address }) ≡ psw_of d
unfolding psw_of
own_word c d = refl

pub loaded_back : (c d : Cpu) → HasFields d →
    loaded (psw_of d) c ≡
    record c { condition = d.condition; mask = d.mask; address = d.address; state = Running }
unfolding loaded
loaded_back c d h =
    let fields = fields_back c d h in
    let same : psw_of (with_fields (psw_of d) c) ≡ psw_of d = ap psw_of fields ∙ own_word c d in
    let runs : running_where (bytes_eq (psw_of (with_fields (psw_of d) c)) (psw_of d)) ≡ Running =
    ap running_where ((bytes_eq-Decides (psw_of (with_fields (psw_of d) c)) (psw_of d)).1 same) in
    λ i. record (fields i) { state = runs i }
