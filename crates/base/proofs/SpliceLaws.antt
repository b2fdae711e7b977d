-- Laws of writing into a lent buffer.
--     Writing o o' at text rest pos     a run of writers on the way to text: rest is left to be written at pos
--     Cut left a rest                   what is left is a, then rest
--     Run o o' at text pieces pos       the same, with the pieces that are left; `start`, `fits`, `next`, `end`
-- `begin`, `step` and `finish` take a run from its start to its end, and `room` says that the next piece fits. Assumes
-- nothing.
use Prim.Native.Nat.{ℕ, ◌+◌, ◌≤◌, ◌<◌}
use native.Mathlib.Nat.{add-zero, zero-add, add_assoc}
use native.Mathlib.Numerals.{add-one}
use native.Mathlib.Omega.{arith}
use mathlib.Core.List.{List, [], ◌∷◌, ◌++◌, append_assoc, append-nil}
use mathlib.Core.Path.{◌≡◌, refl, sym, ap, ◌∙◌}
use lib.ListN.{length, get_or, take, drop, set, length-append, length-drop, take-append-drop}
use lib.Seq.{length-take-le, take_at, drop_at, drop-drop, drop-cons, set_split}
use Rattle.base.specs.Splice.{splice, Wrote, join}

module _ {A : Type 0} where
  pub record Writing (before present : List A) (at : ℕ) (text rest : List A) (pos : ℕ) : Type 0 where
    pub room : at + length text ≤ length before
    pub size : length present ≡ length before
    pub ends : pos + length rest ≡ at + length text
    pub goal : splice present pos rest ≡ splice before at text

  -- `left` is a, then rest
  pub record Cut (left a rest : List A) : Type 0 where
    pub is : left ≡ a ++ rest

  pub cut : (a rest : List A) → Cut (a ++ rest) a rest
  cut a rest = record { is = refl }

  -- the last piece
  pub cut-last : (a : List A) → Cut a a []
  cut-last a = record { is = sym (append-nil a) }

  pub cut-length : {left a rest : List A} → Cut left a rest → length left ≡ length a + length rest
  cut-length {a = a} {rest = rest} e = ap length e.is ∙ length-append a rest

  -- ---- laws of splice

  pub splice-nil : (o : List A) (at : ℕ) → splice o at [] ≡ o
  unfolding splice
  splice-nil o at = rw add-zero (take-append-drop at o)

  -- at the start
  pub splice-start : (o t : List A) → splice o 0 t ≡ t ++ drop (length t) o
  unfolding splice
  splice-start o t = ap (λ (k : ℕ). t ++ drop k o) (zero-add (length t))

  pub length-splice : (o : List A) (at : ℕ) (t : List A) → at + length t ≤ length o → length (splice o at t) ≡ length o
  unfolding splice
  length-splice o at t h =
      let front : length (take at o) ≡ at = length-take-le at o (omega arith) in
      simp (length-append, length-drop, front) (omega arith)

  length_front : (o : List A) (at : ℕ) (t : List A) → at ≤ length o → length (take at o ++ t) ≡ at + length t
  length_front o at t h = rw (length-append, length-take-le at o h)

  -- up to the end of what was written
  pub take-splice : (o : List A) (at : ℕ) (t : List A) → at ≤ length o → take (at + length t) (splice o at t) ≡ take at o ++ t
  unfolding splice
  take-splice o at t h =
      rw (← append_assoc (take at o) t (drop (at + length t) o)) (take_at (take at o ++ t) _ (at + length t) (length_front o at t h))

  -- past it, all is as it was
  pub drop-splice : (o : List A) (at : ℕ) (t : List A) → at ≤ length o → drop (at + length t) (splice o at t) ≡ drop (at + length t) o
  unfolding splice
  drop-splice o at t h =
      rw (← append_assoc (take at o) t (drop (at + length t) o)) (drop_at (take at o ++ t) _ (at + length t) (length_front o at t h))

  -- two writes, the second where the first ended, are one
  splice-is : (o : List A) (at : ℕ) (t : List A) → splice o at t ≡ take at o ++ (t ++ drop (at + length t) o)
  unfolding splice
  splice-is o at t = refl

  pub splice-splice : (o : List A) (at : ℕ) (a b : List A) → at ≤ length o → splice (splice o at a) (at + length a) b ≡ splice o at (a ++ b)
  splice-splice o at a b h =
      let n = at + length a in
      let s = splice o at a in
      let tail : drop (n + length b) s ≡ drop (n + length b) o =
      sym (drop-drop (length b) n s) ∙ ap (drop (length b)) (drop-splice o at a h) ∙ drop-drop (length b) n o in
      splice-is s n b ∙ rw (take-splice o at a h, tail, splice-is o at (a ++ b)) (simp (append_assoc, length-append, add_assoc))

  -- one element
  pub splice-set : (o : List A) (at : ℕ) (b : A) → at < length o → set o at b ≡ splice o at (b ∷ [])
  unfolding splice
  splice-set o at b h = rw (set_split o at b h, ← add-one at)

  -- ---- a run of writes

  pub wrote-length : {o o' : List A} {at : ℕ} {t : List A} {next : ℕ} → Wrote o o' at t next → at + length t ≤ length o → length o' ≡ length o
  wrote-length {o} {o'} {at} {t} w h = ap length w.holds ∙ length-splice o at t h

  pub begin : (o : List A) (at : ℕ) (text : List A) → at + length text ≤ length o → Writing o o at text text at
  begin o at text h = record { room = h; size = refl; ends = refl; goal = refl }

  -- the same, with the text written out
  pub begin-as : {o : List A} {at : ℕ} {text left : List A} → at + length text ≤ length o → text ≡ left → Writing o o at text left at
  begin-as {o} {at} {text} h e =
      record { room = h; size = refl; ends = ap (λ (l : List A). at + length l) (sym e); goal = ap (splice o at) (sym e) }

  -- the first piece, a, fits
  pub first : {text a rest : List A} (at k : ℕ) → at + length text ≤ k → Cut text a rest → at + length a ≤ k
  first {a = a} {rest = rest} at k h e = omega (arith, cut-length e)

  -- the next piece, a, fits
  pub room : {o p : List A} {at : ℕ} {text left a rest : List A} {pos : ℕ} → Writing o p at text left pos → Cut left a rest → pos + length a ≤ length p
  room {a = a} {rest = rest} w e = omega (arith, cut-length e)

  pub step : {o p q : List A} {at : ℕ} {text left a rest : List A} {pos next : ℕ}
      → Writing o p at text left pos → Cut left a rest → Wrote p q pos a next → Writing o q at text rest next
  step {o} {p} {q} {a = a} {rest = rest} {pos = pos} r e w =
      let fits = room r e in
      record {
        room = r.room;
        size = wrote-length w fits ∙ r.size;
        ends = omega (arith, cut-length e);
        goal = rw (w.holds, w.ends, splice-splice p pos a rest (omega arith), ← e.is) r.goal;
      }

  -- nothing is left
  pub finish : {o p : List A} {at : ℕ} {text left : List A} {pos : ℕ} → Writing o p at text left pos → left ≡ [] → Wrote o p at text pos
  finish {p = p} {pos = pos} r e =
      record { holds = sym (splice-nil p pos) ∙ (rw e at r.goal); ends = sym (add-zero pos) ∙ (rw e at r.ends) }

  -- one element, stored
  pub wrote-set : (o : List A) (at : ℕ) (b : A) → at < length o → Wrote o (set o at b) at (b ∷ []) (at + 1)
  wrote-set o at b h = record { holds = splice-set o at b h; ends = refl }

  -- ---- a run of writes whose text is a list of pieces: for code that writes one after the other, with no loop

  pub record Run (before present : List A) (at : ℕ) (text : List A) (left : List (List A)) (pos : ℕ) : Type 0 where
    pub writing : Writing before present at text (join left) pos

  join-cut : (a : List A) (more : List (List A)) → Cut (join (a ∷ more)) a (join more)
  unfolding join
  join-cut a more = record { is = refl }

  pub start : {o : List A} {at : ℕ} {text : List A} {pieces : List (List A)} → at + length text ≤ length o → text ≡ join pieces → Run o o at text pieces at
  start h e = record { writing = begin-as h e }

  pub fits : {o p : List A} {at : ℕ} {text a : List A} {more : List (List A)} {pos : ℕ} → Run o p at text (a ∷ more) pos → pos + length a ≤ length p
  fits {a = a} {more = more} r = room r.writing (join-cut a more)

  pub next : {o p q : List A} {at : ℕ} {text a : List A} {more : List (List A)} {pos pos' : ℕ}
      → Run o p at text (a ∷ more) pos → Wrote p q pos a pos' → Run o q at text more pos'
  next {a = a} {more = more} r w = record { writing = step r.writing (join-cut a more) w }

  -- the same, where what was written is the piece by an equation
  pub next-as : {o p q : List A} {at : ℕ} {text a b : List A} {more : List (List A)} {pos pos' : ℕ}
      → Run o p at text (a ∷ more) pos → a ≡ b → Wrote p q pos b pos' → Run o q at text more pos'
  next-as r e w = next r (rw e w)

  pub end : {o p : List A} {at : ℕ} {text : List A} {pos : ℕ} → Run o p at text [] pos → Wrote o p at text pos
  unfolding join
  end r = finish r.writing refl

-- what is left of a list, an element at a time
pub drop-next : {A : Type 0} (l : List A) (i : ℕ) (d : A) → i < length l → Cut (drop i l) (get_or l i d ∷ []) (drop (i + 1) l)
drop-next l i d h = record { is = rw (add-one, drop-cons l i d h) }
