-- Numbers in storage, by their bytes.
use Rattle.std.proofs.Common.{◌≡◌, ◌∙◌, refl, sym, ℕ, zero, suc, ◌+◌, ◌<◌, ◌≤◌, arith}
use Rattle.std.proofs.Common.{List, drop, slice_index}
use Rattle.std.proofs.lemmas.List.{get_or-drop}
use Rattle.byteorder.specs.Endian.{big_from}
use Rattle.report_text.specs.Storage.{number_at}
use Rattle.tx_serial.specs.Flat.{Storage, bytes_below}
use Rattle.tx_serial.proofs.Listed.{bytes_below_at}

-- the same bytes are the same number
same_number : (n i : ℕ) (some others : List ℕ)
    → ((k : ℕ) → k < i + n → slice_index some k ≡ slice_index others k)
    → big_from i n some ≡ big_from i n others
same_number zero i some others same = refl
same_number (suc n) i some others same =
    let here = same i (omega arith) in
    let rest = same_number n (suc i) some others (λ k h. same k (omega arith)) in
    rw (here, rest) refl

-- bytes of storage, from an address on, are the number that stands there
pub number_read : (n count address : ℕ) (storage : Storage) (bytes : List ℕ) → address + count ≤ n
    → ((k : ℕ) → k < count → slice_index bytes k ≡ storage (address + k))
    → big_from 0 count bytes ≡ number_at (bytes_below n storage) address count
unfolding number_at
number_read n count address storage bytes inside read =
    let all = bytes_below n storage in
    same_number count 0 bytes (drop address all)
    (λ k h. read k (omega arith)
    ∙ sym (get_or-drop address all k 0 ∙ bytes_below_at n storage (address + k) (omega arith)))
