-- The bytes of a list of words, written one word after the other.
-- Assumes nothing.
use Rattle.std.proofs.Common.{◌≡◌, ℕ, ◌+◌, ◌*◌, ◌≤◌, ◌<◌, List, [], ◌∷◌, ◌++◌, length, get_or, take, sym, ap, ap₂, ◌∙◌, append-nil, append_assoc, arith}
use Rattle.std.proofs.lemmas.List.{take_more, length-take-le}
use Rattle.std.proofs.Math.Seq.{take-append-add}
use borrow.Rule.Slice.PartMut.{put_mid, post_of}
use Rattle.endian.specs.Bytes.{bytes, word_bytes}

bytes_snoc : (ws : List ℕ) (w : ℕ) → word_bytes (ws ++ (w ∷ [])) ≡ word_bytes ws ++ bytes 8 w
unfolding word_bytes
bytes_snoc [] w = append-nil (bytes 8 w)
bytes_snoc (v ∷ ws) w = ap (λ (l : List ℕ). bytes 8 v ++ l) (bytes_snoc ws w) ∙ sym (append_assoc (bytes 8 v) (word_bytes ws) (bytes 8 w))

-- word i is written at the front of the part from its place on, and the words before it stand there
pub written_next : (words d part rest : List ℕ) (i at k : ℕ) → at ≡ 8 * i → i < length words → at ≤ length d
    → take (8 * i) d ≡ word_bytes (take i words) → part ≡ bytes 8 (get_or words i 0) ++ rest
    → take (8 * (i + 1)) (put_mid at k d part) ≡ word_bytes (take (i + 1) words)
written_next words d part rest i at k p h g front e =
    let before = take at d in
    let w = get_or words i 0 in
    let after = post_of at k d in
    let size = length-take-le at d g in
    ap₂ take (let z : 8 * (i + 1) ≡ length before + 8 = omega arith in z) (ap (λ (l : List ℕ). before ++ (l ++ after)) e)
    ∙ take-append-add before ((bytes 8 w ++ rest) ++ after) 8
    ∙ ap (λ (l : List ℕ). l ++ bytes 8 w) (ap (λ (n : ℕ). take n d) p ∙ front)
    ∙ sym (bytes_snoc (take i words) w)
    ∙ ap word_bytes (sym (take_more words i 0 h))
