-- Test 5, and the reading as a whole. Assumes nothing.
use Rattle.std.proofs.Common.{◌≡◌, ℕ, Bool, true, false, cond, eqb, List, [], ◌∷◌, get_or, sym, refl, ap, ◌∙◌, eqb-true, ne_eqb, find, Option, Some, None}
use Rattle.base.specs.Outcome.{Outcome, accepted, refused, guard}
use Rattle.base.proofs.Apart.{apart}
use Rattle.base.proofs.Outcome.{guard_passes, guard_refuses}
use Rattle.wire.specs.Decode.{Row, suits, kinds, of_kind, framed, kind_in, fields_in, reading}
use Rattle.wire.specs.Kind.{kind_number, kind_of_number}
use Rattle.wire.specs.Kinds.{suiting}
use Rattle.wire.specs.Layout.{map_in}
use Rattle.wire.specs.Places.{places_in}
use Rattle.wire.specs.declared.frame.Places.{Places}
use Rattle.wire.specs.declared.message.Kind.{Kind}
use Rattle.wire.specs.declared.message.Kind.TheVariants.{ReadStamp, Prepare, Write, Read, Stamp, Prepared, Written, Card}
use Rattle.wire.specs.declared.message.Party.{Party}
use Rattle.wire.specs.declared.message.Party.TheVariants.{Replica, Client}
use Rattle.wire.proofs.FieldParts.{kind_at}
use Rattle.wire.proofs.FieldPlaces.{Framed, framed_passes}
use Rattle.wire.proofs.FrameTests.{refuses, known}

-- What follows test 5 is the same for each kind, so one test says all.
of_kind_lem : {A : Type 0} (party : Party) (map number : ℕ) (rows : List Row) (next : Outcome A)
    → of_kind party map number rows (λ row. next) ≡ guard 5 (suiting party map number rows) next
unfolding of_kind suiting
of_kind_lem party map number [] next = sym (guard_refuses 5 false next refl)
of_kind_lem party map number (row ∷ rows) next = go (eqb number row.number) (of_kind_lem party map number rows next)
  where
    go : (this : Bool) → of_kind party map number rows (λ row. next) ≡ guard 5 (suiting party map number rows) next → cond this (guard 5 (suits party map row) next) (of_kind party map number rows (λ row. next))
        ≡ guard 5 (cond this (suits party map row) (suiting party map number rows)) next
    go true rest = refl
    go false rest = rest

-- A kind that a number names has that number.
find_number : (n : ℕ) (among : List Kind) (k : Kind) → find (λ kind. eqb n (kind_number kind)) among ≡ Some k → n ≡ kind_number k
find_number n [] k e = apart (cc)
find_number n (kind ∷ among) k e = go (eqb n (kind_number kind)) refl e (find_number n among k)
  where
    go : (this : Bool) → eqb n (kind_number kind) ≡ this → cond this (Some kind) (find (λ kind. eqb n (kind_number kind)) among) ≡ Some k
        → (find (λ kind. eqb n (kind_number kind)) among ≡ Some k → n ≡ kind_number k) → n ≡ kind_number k
    go true same e later = let here : kind ≡ k = cc in eqb-true n (kind_number kind) same ∙ ap kind_number here
    go false same e later = later e

pub number_of_kind : (n : ℕ) (k : Kind) → kind_of_number n ≡ Some k → n ≡ kind_number k
number_of_kind n k e = find_number n (ReadStamp ∷ Prepare ∷ Write ∷ Read ∷ Stamp ∷ Prepared ∷ Written ∷ Card ∷ []) k e

-- A number that names no kind stands in no row of the table.
next_row : (kind : Kind) (fits : Bool) {rest : Option Kind} {later : Bool} (this : Bool) → (rest ≡ None → later ≡ false) → cond this (Some kind) rest ≡ None → cond this fits later ≡ false
next_row kind fits true go e = apart (cc)
next_row kind fits false go e = go e

pub no_kind : (party : Party) (map n : ℕ) → kind_of_number n ≡ None → suiting party map n kinds ≡ false
unfolding suiting kinds
no_kind party map n =
    next_row _ _ (eqb n 1) (next_row _ _ (eqb n 2) (next_row _ _ (eqb n 3) (next_row _ _ (eqb n 4) (next_row _ _ (eqb n 5) (next_row _ _ (eqb n 6) (next_row _ _ (eqb n 7) (next_row _ _ (eqb n 8) (λ e. refl))))))))

-- A replica takes no kind but 1 to 4, and a client none but 5 to 8.
neither : (test last : Bool) → last ≡ false → cond test false last ≡ false
neither true last e = refl
neither false last e = e

pub no_replica : (map number : ℕ) → (number ≡ 1 → ⊥) → (number ≡ 2 → ⊥) → (number ≡ 3 → ⊥) → (number ≡ 4 → ⊥) → suiting Replica map number kinds ≡ false
unfolding suiting kinds
no_replica map number n1 n2 n3 n4 =
    rw (ne_eqb number 1 n1, ne_eqb number 2 n2, ne_eqb number 3 n3, ne_eqb number 4 n4)
    (rw (neither (eqb number 8) false refl, neither (eqb number 7) false refl, neither (eqb number 6) false refl) (neither (eqb number 5) false refl))

pub no_client_lem : (map number : ℕ) → (number ≡ 5 → ⊥) → (number ≡ 6 → ⊥) → (number ≡ 7 → ⊥) → (number ≡ 8 → ⊥) → suiting Client map number kinds ≡ false
unfolding suiting kinds
no_client_lem map number n5 n6 n7 n8 =
    rw (ne_eqb number 5 n5, ne_eqb number 6 n6, ne_eqb number 7 n7, ne_eqb number 8 n8)
    (rw (neither (eqb number 4) false refl, neither (eqb number 3) false refl, neither (eqb number 2) false refl) (neither (eqb number 1) false refl))

-- What `read` answers, by the tests that it makes.
module _ (party : Party) (s : List ℕ) where
  to_kind : Framed s → reading party s ≡ guard 5 (suiting party (map_in s) (get_or s 2 0) kinds) (accepted (fields_in s))
  unfolding reading
  to_kind whole =
      framed_passes s _ whole
      ∙ of_kind_lem party (map_in s) (kind_in s) kinds (accepted (fields_in s))
      ∙ ap (λ (number : ℕ). guard 5 (suiting party (map_in s) number kinds) (accepted (fields_in s))) (kind_at s whole)

  pub not_framed : (n : ℕ) → refused n ≡ framed s (accepted (places_in s)) → refused n ≡ reading party s
  unfolding reading
  not_framed n e = sym (refuses s (places_in s) _ n (sym e))

  module _ (p : Places) (whole : accepted p ≡ framed s (accepted (places_in s))) where
    pub not_named : None ≡ kind_of_number (get_or s 2 0) → refused 5 ≡ reading party s
    not_named none = sym (to_kind (known s p (sym whole)).0 ∙ guard_refuses 5 _ _ (no_kind party (map_in s) (get_or s 2 0) (sym none)))

    module _ (kind : Kind) (named : Some kind ≡ kind_of_number (get_or s 2 0)) where
      to_suits : reading party s ≡ guard 5 (suiting party p.map (kind_number kind) kinds) (accepted (fields_in s))
      unfolding places_in
      to_suits =
          let k = known s p (sym whole) in
          rw k.1 (to_kind k.0 ∙ ap (λ (n : ℕ). guard 5 (suiting party (map_in s) n kinds) (accepted (fields_in s))) (number_of_kind _ kind (sym named)))

      pub suited : true ≡ suiting party p.map (kind_number kind) kinds → accepted (fields_in s) ≡ reading party s
      suited e = sym (to_suits ∙ guard_passes 5 _ _ (sym e))

      pub not_suited : false ≡ suiting party p.map (kind_number kind) kinds → refused 5 ≡ reading party s
      not_suited e = sym (to_suits ∙ guard_refuses 5 _ _ (sym e))
