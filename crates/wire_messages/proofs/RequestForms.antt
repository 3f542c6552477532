-- Wants, replies and refusals are forms.
use Rattle.std.proofs.Common.{◌≡◌, ℕ, ◌<◌, ◌≤◌, Bool, true, ◌&&◌, List, [], ◌++◌, length, take, Ok, Err, refl, arith, inl, inr, lit<}
use Rattle.std.specs.Prelude.{nat_lt, ◌==◌}
use Rattle.std.specs.Int.{w32}
use Rattle.std.proofs.lemmas.Bool.{ltb-true, eqb-true, eqb-false, and_parts, or_cases}
use Rattle.conflict_order.specs.declared.want.Want.{Want}
use Rattle.conflict_order.specs.declared.want.Want.TheVariants as want
use Rattle.wire_messages.specs.declared.fault.FieldFault.TheVariants.{Short}
use Rattle.wire_messages.specs.declared.reply.ReplyBody.{ReplyBody}
use Rattle.wire_messages.specs.declared.reply.ReplyBody.TheVariants as reply
use Rattle.wire_messages.specs.declared.scan.ScanRefusal.{ScanRefusal}
use Rattle.wire_messages.specs.declared.scan.ScanRefusal.TheVariants as refusal
use Rattle.wire_messages.specs.Numbers.{between, number_field, byte_field}
use Rattle.wire_messages.specs.Nodes.{id_field}
use Rattle.wire_messages.specs.Versions.{value_field, version_field}
use Rattle.wire_messages.specs.Requests.{want_field, want_of, want_at, IsWant, reply_field, reply_of, is_reply_tag, reply_at, IsReplyBody, refusal_field, refusal_of, refusal_at, IsRefusal}
use Rattle.wire_messages.proofs.Forms.{IsBytes, Small, IsForm, chosen}
use Rattle.wire_messages.proofs.NumberForms.{Allowed, is_byte, counted_form, between_is, no_less}
use Rattle.wire_messages.proofs.ChoiceForms.{IsChoice, Tagged, choice_form, plain_taken, one_again, one_cut, one_taken}
use Rattle.wire_messages.proofs.NodeForms.{id_form}
use Rattle.wire_messages.proofs.VersionForms.{value_form, version_form}

-- ---- wants

abbrev want_tag : Want → ℕ
want_tag want.Get = 0
want_tag (want.Put value) = 1
want_tag want.Del = 2

abbrev want_text : Want → List ℕ
want_text want.Get = []
want_text (want.Put value) = value_field value
want_text want.Del = []

want_choice : IsChoice IsWant (between 0 2) want_tag want_text want_of
want_choice = record {
  tag = λ x q. elim x as (λ x. Allowed (between 0 2) 256 (want_tag x)) [
    | want.Get ↦ is_byte (between 0 2) 0 refl (lit< tt)
    | want.Put value ↦ is_byte (between 0 2) 1 refl (lit< tt)
    | want.Del ↦ is_byte (between 0 2) 2 refl (lit< tt)
  ];
  again = λ x rest. elim x as (λ x. IsWant x → want_of (want_tag x) (want_text x ++ rest) ≡ Ok (x, rest)) [
    | want.Get ↦ λ q. refl
    | want.Put value ↦ λ q. one_again value_form (λ v. want.Put v) value q rest
    | want.Del ↦ λ q. refl
  ];
  takes = λ tag bytes x rest ok fits e.
      elim (chosen (tag == 0) _ _ _ e) [
        | inl get ↦ plain_taken IsWant want_tag want_text want.Get tag (eqb-true _ _ get.0) refl tt bytes fits x rest get.1
        | inr other ↦
            elim (chosen (tag == 1) _ _ _ other.1) [
              | inl put ↦ one_taken value_form IsWant want_tag want_text (λ v. want.Put v) tag (λ v. eqb-true _ _ put.0) (λ v. refl) (λ v p. p) bytes fits x rest put.1
              | inr del ↦
                  let n0 = eqb-false tag 0 other.0 in
                  let n1 = eqb-false tag 1 del.0 in
                  let most = (between_is 0 2 tag ok).1 in
                  let is : tag ≡ 2 = omega arith in
                  plain_taken IsWant want_tag want_text want.Del tag is refl tt bytes fits x rest del.1
            ]
      ];
  cut = λ x k. elim x as (λ x. IsWant x → k < length (want_text x) → want_of (want_tag x) (take k (want_text x)) ≡ Err Short) [
    | want.Get ↦ λ q lt. no_less k lt
    | want.Put value ↦ λ q lt. one_cut value_form (λ v. want.Put v) value q k lt
    | want.Del ↦ λ q lt. no_less k lt
  ];
  small = λ x. elim x as (λ x. IsWant x → Small (want_text x)) [ want.Get ↦ λ q. tt | want.Put value ↦ λ q. value_form.small value q | want.Del ↦ λ q. tt ];
}

pub want_form : IsForm IsWant want_field want_at
unfolding want_field want_at byte_field
want_form = choice_form IsWant want_field (between 0 2) want_tag want_text want_of want_choice
    (λ x. elim x as (λ x. byte_field (want_tag x) ++ want_text x ≡ want_field x) [ want.Get ↦ refl | want.Put value ↦ refl | want.Del ↦ refl ])

-- ---- replies

abbrev reply_tag : ReplyBody → ℕ
reply_tag reply.Nothing = 0
reply_tag (reply.Found v) = 1
reply_tag reply.Done = 2
reply_tag (reply.Exchanging id) = 3
reply_tag (reply.NotMaster id) = 4
reply_tag (reply.Busy transaction) = 5
reply_tag reply.NoView = 6

abbrev reply_text : ReplyBody → List ℕ
reply_text reply.Nothing = []
reply_text (reply.Found v) = version_field v
reply_text reply.Done = []
reply_text (reply.Exchanging id) = id_field id
reply_text (reply.NotMaster id) = id_field id
reply_text (reply.Busy transaction) = number_field w32 transaction
reply_text reply.NoView = []

no_view_tag : (no_view : Bool) → no_view ≡ true → is_reply_tag no_view 6 ≡ true
no_view_tag no_view e = rw e refl

last_tag : (no_view : Bool) (tag : ℕ) → is_reply_tag no_view tag ≡ true → 6 ≤ tag → (no_view ≡ true) × (tag ≡ 6)
last_tag no_view tag e le =
    elim (or_cases (nat_lt tag 6) (no_view && (tag == 6)) e) [
      | inl small ↦ let lt = ltb-true tag 6 small in absurd (omega arith)
      | inr both ↦ let p = and_parts no_view (tag == 6) both in (p.0, eqb-true tag 6 p.1)
    ]

reply_taken : (no_view : Bool) (tag : ℕ) (bytes : List ℕ) (x : ReplyBody) (rest : List ℕ) → is_reply_tag no_view tag ≡ true → IsBytes bytes → reply_of tag bytes ≡ Ok (x, rest)
    → Tagged (IsReplyBody no_view) reply_tag reply_text tag bytes x rest
reply_taken no_view tag bytes x rest ok fits e =
    elim (chosen (tag == 0) _ _ _ e) [
      | inl t0 ↦ plain_taken (IsReplyBody no_view) reply_tag reply_text reply.Nothing tag (eqb-true _ _ t0.0) refl tt bytes fits x rest t0.1
      | inr e0 ↦ elim (chosen (tag == 1) _ _ _ e0.1) [
        | inl t1 ↦ one_taken version_form (IsReplyBody no_view) reply_tag reply_text (λ v. reply.Found v) tag (λ v. eqb-true _ _ t1.0) (λ v. refl) (λ v p. p) bytes fits x rest t1.1
        | inr e1 ↦ elim (chosen (tag == 2) _ _ _ e1.1) [
          | inl t2 ↦ plain_taken (IsReplyBody no_view) reply_tag reply_text reply.Done tag (eqb-true _ _ t2.0) refl tt bytes fits x rest t2.1
          | inr e2 ↦ elim (chosen (tag == 3) _ _ _ e2.1) [
            | inl t3 ↦ one_taken id_form (IsReplyBody no_view) reply_tag reply_text (λ id. reply.Exchanging id) tag (λ id. eqb-true _ _ t3.0) (λ id. refl) (λ id p. p) bytes fits x rest t3.1
            | inr e3 ↦ elim (chosen (tag == 4) _ _ _ e3.1) [
              | inl t4 ↦ one_taken id_form (IsReplyBody no_view) reply_tag reply_text (λ id. reply.NotMaster id) tag (λ id. eqb-true _ _ t4.0) (λ id. refl) (λ id p. p) bytes fits x rest t4.1
              | inr e4 ↦ elim (chosen (tag == 5) _ _ _ e4.1) [
                | inl t5 ↦ one_taken counted_form (IsReplyBody no_view) reply_tag reply_text (λ n. reply.Busy n) tag (λ n. eqb-true _ _ t5.0) (λ n. refl) (λ n p. p) bytes fits x rest t5.1
                | inr e5 ↦
                    let n0 = eqb-false tag 0 e0.0 in
                    let n1 = eqb-false tag 1 e1.0 in
                    let n2 = eqb-false tag 2 e2.0 in
                    let n3 = eqb-false tag 3 e3.0 in
                    let n4 = eqb-false tag 4 e4.0 in
                    let n5 = eqb-false tag 5 e5.0 in
                    let least : 6 ≤ tag = omega arith in
                    let last = last_tag no_view tag ok least in
                    plain_taken (IsReplyBody no_view) reply_tag reply_text reply.NoView tag last.1 refl last.0 bytes fits x rest e5.1
              ]
            ]
          ]
        ]
      ]
    ]

reply_choice : (no_view : Bool) → IsChoice (IsReplyBody no_view) (is_reply_tag no_view) reply_tag reply_text reply_of
reply_choice no_view = record {
  tag = λ x. elim x as (λ x. IsReplyBody no_view x → Allowed (is_reply_tag no_view) 256 (reply_tag x)) [
    | reply.Nothing ↦ λ q. is_byte (is_reply_tag no_view) 0 refl (lit< tt)
    | reply.Found v ↦ λ q. is_byte (is_reply_tag no_view) 1 refl (lit< tt)
    | reply.Done ↦ λ q. is_byte (is_reply_tag no_view) 2 refl (lit< tt)
    | reply.Exchanging id ↦ λ q. is_byte (is_reply_tag no_view) 3 refl (lit< tt)
    | reply.NotMaster id ↦ λ q. is_byte (is_reply_tag no_view) 4 refl (lit< tt)
    | reply.Busy n ↦ λ q. is_byte (is_reply_tag no_view) 5 refl (lit< tt)
    | reply.NoView ↦ λ q. is_byte (is_reply_tag no_view) 6 (no_view_tag no_view q) (lit< tt)
  ];
  again = λ x rest. elim x as (λ x. IsReplyBody no_view x → reply_of (reply_tag x) (reply_text x ++ rest) ≡ Ok (x, rest)) [
    | reply.Nothing ↦ λ q. refl
    | reply.Found v ↦ λ q. one_again version_form (λ v. reply.Found v) v q rest
    | reply.Done ↦ λ q. refl
    | reply.Exchanging id ↦ λ q. one_again id_form (λ id. reply.Exchanging id) id q rest
    | reply.NotMaster id ↦ λ q. one_again id_form (λ id. reply.NotMaster id) id q rest
    | reply.Busy n ↦ λ q. one_again counted_form (λ n. reply.Busy n) n q rest
    | reply.NoView ↦ λ q. refl
  ];
  takes = reply_taken no_view;
  cut = λ x k. elim x as (λ x. IsReplyBody no_view x → k < length (reply_text x) → reply_of (reply_tag x) (take k (reply_text x)) ≡ Err Short) [
    | reply.Nothing ↦ λ q lt. no_less k lt
    | reply.Found v ↦ λ q lt. one_cut version_form (λ v. reply.Found v) v q k lt
    | reply.Done ↦ λ q lt. no_less k lt
    | reply.Exchanging id ↦ λ q lt. one_cut id_form (λ id. reply.Exchanging id) id q k lt
    | reply.NotMaster id ↦ λ q lt. one_cut id_form (λ id. reply.NotMaster id) id q k lt
    | reply.Busy n ↦ λ q lt. one_cut counted_form (λ n. reply.Busy n) n q k lt
    | reply.NoView ↦ λ q lt. no_less k lt
  ];
  small = λ x. elim x as (λ x. IsReplyBody no_view x → Small (reply_text x)) [
    | reply.Nothing ↦ λ q. tt
    | reply.Found v ↦ λ q. version_form.small v q
    | reply.Done ↦ λ q. tt
    | reply.Exchanging id ↦ λ q. id_form.small id q
    | reply.NotMaster id ↦ λ q. id_form.small id q
    | reply.Busy n ↦ λ q. counted_form.small n q
    | reply.NoView ↦ λ q. tt
  ];
}

pub reply_form : (no_view : Bool) → IsForm (IsReplyBody no_view) reply_field (reply_at no_view)
unfolding reply_field reply_at byte_field
reply_form no_view = choice_form (IsReplyBody no_view) reply_field (is_reply_tag no_view) reply_tag reply_text reply_of (reply_choice no_view)
    (λ x. elim x as (λ x. byte_field (reply_tag x) ++ reply_text x ≡ reply_field x) [
      | reply.Nothing ↦ refl
      | reply.Found v ↦ refl
      | reply.Done ↦ refl
      | reply.Exchanging id ↦ refl
      | reply.NotMaster id ↦ refl
      | reply.Busy n ↦ refl
      | reply.NoView ↦ refl
    ])

-- ---- refusals of scans

abbrev refusal_tag : ScanRefusal → ℕ
refusal_tag refusal.NoView = 1
refusal_tag (refusal.Exchanging id) = 2
refusal_tag (refusal.NotMaster id) = 3
refusal_tag refusal.NotSettled = 4
refusal_tag (refusal.Open transaction) = 5

abbrev refusal_text : ScanRefusal → List ℕ
refusal_text refusal.NoView = []
refusal_text (refusal.Exchanging id) = id_field id
refusal_text (refusal.NotMaster id) = id_field id
refusal_text refusal.NotSettled = []
refusal_text (refusal.Open transaction) = number_field w32 transaction

refusal_taken : (tag : ℕ) (bytes : List ℕ) (x : ScanRefusal) (rest : List ℕ) → between 1 5 tag ≡ true → IsBytes bytes → refusal_of tag bytes ≡ Ok (x, rest)
    → Tagged IsRefusal refusal_tag refusal_text tag bytes x rest
refusal_taken tag bytes x rest ok fits e =
    elim (chosen (tag == 1) _ _ _ e) [
      | inl t1 ↦ plain_taken IsRefusal refusal_tag refusal_text refusal.NoView tag (eqb-true _ _ t1.0) refl tt bytes fits x rest t1.1
      | inr e1 ↦ elim (chosen (tag == 2) _ _ _ e1.1) [
        | inl t2 ↦ one_taken id_form IsRefusal refusal_tag refusal_text (λ id. refusal.Exchanging id) tag (λ id. eqb-true _ _ t2.0) (λ id. refl) (λ id p. p) bytes fits x rest t2.1
        | inr e2 ↦ elim (chosen (tag == 3) _ _ _ e2.1) [
          | inl t3 ↦ one_taken id_form IsRefusal refusal_tag refusal_text (λ id. refusal.NotMaster id) tag (λ id. eqb-true _ _ t3.0) (λ id. refl) (λ id p. p) bytes fits x rest t3.1
          | inr e3 ↦ elim (chosen (tag == 4) _ _ _ e3.1) [
            | inl t4 ↦ plain_taken IsRefusal refusal_tag refusal_text refusal.NotSettled tag (eqb-true _ _ t4.0) refl tt bytes fits x rest t4.1
            | inr e4 ↦
                let n1 = eqb-false tag 1 e1.0 in
                let n2 = eqb-false tag 2 e2.0 in
                let n3 = eqb-false tag 3 e3.0 in
                let n4 = eqb-false tag 4 e4.0 in
                let range = between_is 1 5 tag ok in
                let least = range.0 in
                let most = range.1 in
                let is : tag ≡ 5 = omega arith in
                one_taken counted_form IsRefusal refusal_tag refusal_text (λ n. refusal.Open n) tag (λ n. is) (λ n. refl) (λ n p. p) bytes fits x rest e4.1
          ]
        ]
      ]
    ]

refusal_choice : IsChoice IsRefusal (between 1 5) refusal_tag refusal_text refusal_of
refusal_choice = record {
  tag = λ x q. elim x as (λ x. Allowed (between 1 5) 256 (refusal_tag x)) [
    | refusal.NoView ↦ is_byte (between 1 5) 1 refl (lit< tt)
    | refusal.Exchanging id ↦ is_byte (between 1 5) 2 refl (lit< tt)
    | refusal.NotMaster id ↦ is_byte (between 1 5) 3 refl (lit< tt)
    | refusal.NotSettled ↦ is_byte (between 1 5) 4 refl (lit< tt)
    | refusal.Open n ↦ is_byte (between 1 5) 5 refl (lit< tt)
  ];
  again = λ x rest. elim x as (λ x. IsRefusal x → refusal_of (refusal_tag x) (refusal_text x ++ rest) ≡ Ok (x, rest)) [
    | refusal.NoView ↦ λ q. refl
    | refusal.Exchanging id ↦ λ q. one_again id_form (λ id. refusal.Exchanging id) id q rest
    | refusal.NotMaster id ↦ λ q. one_again id_form (λ id. refusal.NotMaster id) id q rest
    | refusal.NotSettled ↦ λ q. refl
    | refusal.Open n ↦ λ q. one_again counted_form (λ n. refusal.Open n) n q rest
  ];
  takes = refusal_taken;
  cut = λ x k. elim x as (λ x. IsRefusal x → k < length (refusal_text x) → refusal_of (refusal_tag x) (take k (refusal_text x)) ≡ Err Short) [
    | refusal.NoView ↦ λ q lt. no_less k lt
    | refusal.Exchanging id ↦ λ q lt. one_cut id_form (λ id. refusal.Exchanging id) id q k lt
    | refusal.NotMaster id ↦ λ q lt. one_cut id_form (λ id. refusal.NotMaster id) id q k lt
    | refusal.NotSettled ↦ λ q lt. no_less k lt
    | refusal.Open n ↦ λ q lt. one_cut counted_form (λ n. refusal.Open n) n q k lt
  ];
  small = λ x. elim x as (λ x. IsRefusal x → Small (refusal_text x)) [
    | refusal.NoView ↦ λ q. tt
    | refusal.Exchanging id ↦ λ q. id_form.small id q
    | refusal.NotMaster id ↦ λ q. id_form.small id q
    | refusal.NotSettled ↦ λ q. tt
    | refusal.Open n ↦ λ q. counted_form.small n q
  ];
}

pub refusal_form : IsForm IsRefusal refusal_field refusal_at
unfolding refusal_field refusal_at byte_field
refusal_form = choice_form IsRefusal refusal_field (between 1 5) refusal_tag refusal_text refusal_of refusal_choice
    (λ x. elim x as (λ x. byte_field (refusal_tag x) ++ refusal_text x ≡ refusal_field x) [
      | refusal.NoView ↦ refl
      | refusal.Exchanging id ↦ refl
      | refusal.NotMaster id ↦ refl
      | refusal.NotSettled ↦ refl
      | refusal.Open n ↦ refl
    ])
