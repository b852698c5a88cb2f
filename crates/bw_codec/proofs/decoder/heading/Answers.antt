use Rattle.std.proofs.Common.{◌≡◌, ◌==◌, ◌<◌, ℕ, true, false, List, length, drop, refl, ap, sym, ◌∙◌, arith}
use Rattle.std.proofs.lemmas.Bool.{lt-ltb, eqb-false}
use Rattle.std.proofs.lemmas.List.{take_rest}
use Rattle.byteorder.specs.Endian.{little_number}
use Rattle.bw_codec.specs.declared.head.Header.{Header}
use Rattle.bw_codec.specs.Grammar.{agrees, segment_word}
use Rattle.bw_codec.specs.Reading.{version_in, header_in, heading_of}
use Rattle.bw_codec.specs.declared.head.HeaderRead.TheVariants.{Part}
use Rattle.bw_codec.proofs.Heading.{no_header_there, header_told}
use Rattle.bw_codec.proofs.decoder.heading.Goals as goal

-- some bytes that agree with the word, too few for a header
part_there : (bytes : List ℕ) → agrees bytes (segment_word (version_in bytes)) ≡ true → length bytes < 24 → (length bytes == 0) ≡ false
    → Part ≡ heading_of bytes
unfolding heading_of
part_there bytes word short some =
    let more : 0 < length bytes = omega (arith, eqb-false (length bytes) 0 some) in
    rw (word, lt-ltb (length bytes) 24 short, lt-ltb 0 (length bytes) more) refl

pub returns-else-is_empty : goal.returns-else-is_empty
returns-else-is_empty c =
    part_there c.args.bytes.now (ap (λ (w : List ℕ). agrees c.args.bytes.now w) (sym (c.segment_word.ensures ∙ ap segment_word c.version_of-version.ensures))
    ∙ sym c.begins_as.ensures ∙ c.if-not-begins_as.false) c.if-bytes-lt-HEADER_LEN.true
    (sym c.is_empty.ensures ∙ c.if-is_empty.false)

pub returns-else-is_lawful : goal.returns-else-is_lawful
returns-else-is_lawful c =
    let bytes = c.args.bytes.now in
    let long = c.if-bytes-lt-HEADER_LEN.false in
    let number : c.read_u64.result ≡ little_number 8 (drop 8 bytes) = c.read_u64.ensures ∙ ap (little_number 8) (take_rest bytes 8) in
    let m : c.read_u16-2.result ≡ little_number 2 (drop 16 bytes) = c.read_u16-2.ensures ∙ ap (little_number 2) (take_rest bytes 16) in
    let f : c.read_u32.result ≡ little_number 4 (drop 20 bytes) = c.read_u32.ensures ∙ ap (little_number 4) (take_rest bytes 20) in
    let zero = ap (little_number 2) (sym (take_rest bytes 18)) ∙ sym c.read_u16.ensures ∙ c.if-read_u16-ne0.false in
    let header : Header = record { version = c.version_of-version.result; number = c.read_u64.result; m = c.read_u16-2.result; f = c.read_u32.result } in
    let word = ap (λ (w : List ℕ). agrees c.args.bytes.now w) (sym (c.segment_word.ensures ∙ ap segment_word c.version_of-version.ensures))
    ∙ sym c.begins_as.ensures ∙ c.if-not-begins_as.false in
    no_header_there header bytes word (omega arith) zero (cc) (sym c.is_lawful.ensures ∙ c.if-is_lawful.false)

pub returns-then-is_lawful : goal.returns-then-is_lawful
returns-then-is_lawful c =
    let bytes = c.args.bytes.now in
    let long = c.if-bytes-lt-HEADER_LEN.false in
    let number : c.read_u64.result ≡ little_number 8 (drop 8 bytes) = c.read_u64.ensures ∙ ap (little_number 8) (take_rest bytes 8) in
    let m : c.read_u16-2.result ≡ little_number 2 (drop 16 bytes) = c.read_u16-2.ensures ∙ ap (little_number 2) (take_rest bytes 16) in
    let f : c.read_u32.result ≡ little_number 4 (drop 20 bytes) = c.read_u32.ensures ∙ ap (little_number 4) (take_rest bytes 20) in
    let zero = ap (little_number 2) (sym (take_rest bytes 18)) ∙ sym c.read_u16.ensures ∙ c.if-read_u16-ne0.false in
    let header : Header = record { version = c.version_of-version.result; number = c.read_u64.result; m = c.read_u16-2.result; f = c.read_u32.result } in
    let word = ap (λ (w : List ℕ). agrees c.args.bytes.now w) (sym (c.segment_word.ensures ∙ ap segment_word c.version_of-version.ensures))
    ∙ sym c.begins_as.ensures ∙ c.if-not-begins_as.false in
    let is : header ≡ header_in bytes = λ i. record { version = c.version_of-version.ensures i; number = number i; m = m i; f = f i } in
    header_told header bytes word (omega arith) zero is (sym c.is_lawful.ensures ∙ c.if-is_lawful.true)
