-- Causes that are the same.
use Rattle.std.proofs.Common.{◌≡◌, Bool, true, false, refl, sym, ap}
use Rattle.std.specs.Prelude.{◌&&◌, nat_eq}
use Rattle.std.proofs.lemmas.Bool.{true≢false, and_from, and_parts, eqb-true}
use Rattle.z_instr.specs.Facts.{agree}
use Rattle.tx_control.specs.declared.exceptions.Exception.{Exception}
use Rattle.tx_control.specs.declared.causes.Why.{Why}
use Rattle.tx_control.specs.declared.causes.Why.TheVariants.{External, Program, FetchConflict}
use Rattle.tx_control.specs.declared.causes.Why.TheVariants.{StoreConflict, FetchOverflow, StoreOverflow}
use Rattle.tx_control.specs.declared.causes.Why.TheVariants.{Restricted, Filtered, Depth, Starved, Tabort}
use Rattle.tx_serial.specs.Ending.{is_same_exception, is_same_cause}
use Rattle.tx_serial.proofs.Frame.{equals_itself}

pub agreeing : (a b : Bool) → agree a b ≡ true → a ≡ b
agreeing true b h = sym h
agreeing false true h = absurd (true≢false (sym h))
agreeing false false h = refl

agrees_itself : (a : Bool) → agree a a ≡ true
agrees_itself true = refl
agrees_itself false = refl

pub same_exception : (d e : Exception) → is_same_exception d e ≡ true → d ≡ e
same_exception d e h =
    let first = and_parts (nat_eq d.code e.code) (agree d.fetch e.fetch && nat_eq d.length e.length) h in
    let rest = and_parts (agree d.fetch e.fetch) (nat_eq d.length e.length) first.1 in
    let code = eqb-true d.code e.code first.0 in
    let fetch = agreeing d.fetch e.fetch rest.0 in
    let length = eqb-true d.length e.length rest.1 in
    λ i. record { code = code i; fetch = fetch i; length = length i }

one_exception : (e : Exception) → is_same_exception e e ≡ true
one_exception e =
    and_from (nat_eq e.code e.code) (agree e.fetch e.fetch && nat_eq e.length e.length) (equals_itself e.code)
    (and_from (agree e.fetch e.fetch) (nat_eq e.length e.length) (agrees_itself e.fetch) (equals_itself
    e.length))

pub same_cause : (a b : Why) → is_same_cause a b ≡ true → a ≡ b
same_cause External External h = refl
same_cause (Program d) (Program e) h = ap Program (same_exception d e h)
same_cause (FetchConflict k) (FetchConflict l) h = ap FetchConflict (eqb-true k l h)
same_cause (StoreConflict k) (StoreConflict l) h = ap StoreConflict (eqb-true k l h)
same_cause FetchOverflow FetchOverflow h = refl
same_cause StoreOverflow StoreOverflow h = refl
same_cause Restricted Restricted h = refl
same_cause (Filtered d) (Filtered e) h = ap Filtered (same_exception d e h)
same_cause Depth Depth h = refl
same_cause Starved Starved h = refl
same_cause (Tabort c) (Tabort d) h = ap Tabort (eqb-true c d h)
same_cause _ _ h = absurd (true≢false (sym h))

pub one_cause : (a : Why) → is_same_cause a a ≡ true
one_cause External = refl
one_cause (Program e) = one_exception e
one_cause (FetchConflict line) = equals_itself line
one_cause (StoreConflict line) = equals_itself line
one_cause FetchOverflow = refl
one_cause StoreOverflow = refl
one_cause Restricted = refl
one_cause (Filtered e) = one_exception e
one_cause Depth = refl
one_cause Starved = refl
one_cause (Tabort code) = equals_itself code
