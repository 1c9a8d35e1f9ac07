-- What each kind of segment looks at of its data.
use Rattle.std.proofs.Common.{◌≡◌, ℕ, ◌+◌, ◌*◌, ◌≤◌, ◌<◌, max, List, nat_le, false, Some, None, ap, sym, ◌∙◌, arith}
use Rattle.std.proofs.lemmas.Bool.{lt-leb}
use Rattle.czi_format.specs.Bytes.{bytes_at, i32_at, i64_at}
use Rattle.czi_format.specs.Partial.{◌>>=◌, natural, given}
use Rattle.czi_format.specs.Entry.{Entry, A1}
use Rattle.czi_format.specs.Contents.{SubHead, sub_head, sub_end, MetaHead, meta_head, meta_end, att_size, entry_count}
use Rattle.czi_format.specs.Live.{directory, attachment_directory, tile, att_item, meta_item}
use Rattle.czi_format.proofs.Readings.{bind_some, given_some}
use Rattle.czi_image.proofs.Windows.{ReadsFront, i32_in_window, i64_in_window, none_found}

-- fields of two lists that begin alike
same_i32 : (a b : List ℕ) (n k : ℕ) → k + 4 ≤ n → bytes_at a 0 n ≡ bytes_at b 0 n → i32_at a k ≡ i32_at b k
same_i32 a b n k fits same =
    let place : 0 + k ≡ k = omega arith in
    let here : i32_at (bytes_at a 0 n) k ≡ i32_at a k = i32_in_window a 0 n k fits ∙ ap (i32_at a) place in
    let there : i32_at (bytes_at b 0 n) k ≡ i32_at b k = i32_in_window b 0 n k fits ∙ ap (i32_at b) place in
    sym here ∙ (ap (λ (l : List ℕ). i32_at l k) same ∙ there)

same_i64 : (a b : List ℕ) (n k : ℕ) → k + 8 ≤ n → bytes_at a 0 n ≡ bytes_at b 0 n → i64_at a k ≡ i64_at b k
same_i64 a b n k fits same =
    let place : 0 + k ≡ k = omega arith in
    let here : i64_at (bytes_at a 0 n) k ≡ i64_at a k = i64_in_window a 0 n k fits ∙ ap (i64_at a) place in
    let there : i64_at (bytes_at b 0 n) k ≡ i64_at b k = i64_in_window b 0 n k fits ∙ ap (i64_at b) place in
    sym here ∙ (ap (λ (l : List ℕ). i64_at l k) same ∙ there)

-- a test that fails
not_given : {A : Type 0} (a b : ℕ) (x : A) → b < a → given (nat_le a b) x ≡ None
not_given a b x less = let no : nat_le a b ≡ false = lt-leb a b less in rw no

pub directory_front : ReadsFront 4 128 directory
unfolding directory entry_count
directory_front = record {
  small = λ s bytes less. none_found (natural (i32_at bytes 0)) _ (λ n is. not_given 128 s.allocated _ less);
  same = λ s a b same. let e : i32_at a 0 ≡ i32_at b 0 = same_i32 a b 4 0 (omega arith) same in simp e;
}

pub attachment_directory_front : ReadsFront 4 256 attachment_directory
unfolding attachment_directory entry_count
attachment_directory_front = record {
  small = λ s bytes less. none_found (natural (i32_at bytes 0)) _ (λ n is. not_given (256 + 128 * n) s.allocated _ (omega (arith, less)));
  same = λ s a b same. let e : i32_at a 0 ≡ i32_at b 0 = same_i32 a b 4 0 (omega arith) same in simp e;
}

pub att_item_front : (e : A1) → ReadsFront 4 256 (att_item e)
unfolding att_item att_size
att_item_front entry = record {
  small = λ s bytes less. none_found (natural (i32_at bytes 0)) _ (λ n is. not_given (256 + n) s.allocated _ (omega (arith, less)));
  same = λ s a b same. let e : i32_at a 0 ≡ i32_at b 0 = same_i32 a b 4 0 (omega arith) same in simp e;
}

pub meta_item_front : ReadsFront 8 256 meta_item
unfolding meta_item meta_head
meta_item_front = record {
  small = λ s bytes less. none_found (natural (i32_at bytes 0) >>= λ x. natural (i32_at bytes 4) >>= λ t. Some (let h : MetaHead = record { xml = x; tail = t } in h)) _ (λ h is. not_given (meta_end h) s.allocated _ (omega (arith, less)));
  same = λ s a b same.
      let xml : i32_at a 0 ≡ i32_at b 0 = same_i32 a b 8 0 (omega arith) same in
      let tail : i32_at a 4 ≡ i32_at b 4 = same_i32 a b 8 4 (omega arith) same in simp (xml, tail);
}

-- the contents begin behind 256 bytes at least
sub_begin : (bytes : List ℕ) (h : SubHead) → sub_head bytes ≡ Some h → 256 ≤ h.begin
unfolding sub_head
sub_begin bytes h is =
    let m = bind_some (natural (i32_at bytes 0)) _ h is in
    let t = bind_some (natural (i32_at bytes 4)) _ h m.2 in
    let p = bind_some (natural (i64_at bytes 8)) _ h t.2 in
    let o = bind_some (natural (i32_at bytes 44)) _ h p.2 in
    let g = given_some _ _ h o.2 in
    let begin : max 256 (16 + 32 + 20 * o.0) ≡ h.begin = ap (λ (z : SubHead). z.begin) g.1 in
    omega (arith, begin)

same_head : (a b : List ℕ) → bytes_at a 0 48 ≡ bytes_at b 0 48 → sub_head a ≡ sub_head b
unfolding sub_head
same_head a b same =
    let meta : i32_at a 0 ≡ i32_at b 0 = same_i32 a b 48 0 (omega arith) same in
    let tail : i32_at a 4 ≡ i32_at b 4 = same_i32 a b 48 4 (omega arith) same in
    let pixels : i64_at a 8 ≡ i64_at b 8 = same_i64 a b 48 8 (omega arith) same in
    let own : i32_at a 44 ≡ i32_at b 44 = same_i32 a b 48 44 (omega arith) same in
    simp (meta, tail, pixels, own)

pub tile_front : (e : Entry) → ReadsFront 48 256 (tile e)
unfolding tile
tile_front e = record {
  small = λ s bytes less. none_found (sub_head bytes) _ (λ h is. not_given (sub_end h) s.allocated _ (omega (arith, less, sub_begin bytes h is)));
  same = λ s a b same. let h : sub_head a ≡ sub_head b = same_head a b same in simp h;
}
