-- Ids and their slugids, one for one.
use Rattle.std.proofs.Common.{◌≡◌, ℕ, ◌/◌, Bool, true, false, ◌&&◌, ◌==◌, nat_lt, List, [], ◌∷◌, length, get_or, map, slice_index, Option, Some, None, Result, Ok, Err, refl, sym, ap, ◌∙◌, subst, arith}
use Rattle.std.specs.Prelude.{All, option_and_then, if◌then◌else◌}
use Rattle.std.specs.List.{filter_map, cons_option, list_all}
use Rattle.std.specs.Result.{result_ok}
use Rattle.std.proofs.lemmas.Bool.{ltb-true, eqb-true}
use Rattle.std.proofs.lemmas.List.Elements.{All-nil, All-cons, All-head, All-tail}
use Rattle.std.proofs.lemmas.List.Sums.{AllPass-from_list_all}
use Rattle.base64.specs.declared.decode.DecodeError.{DecodeError}
use Rattle.base64.specs.GeneralPurpose.{decode_of, IsBytes}
use Rattle.base64.specs.Engines.{url_safe_no_pad}
use Rattle.base64.proofs.EngineFacts.{IsAscii-encode_of}
use Rattle.farm_text.specs.Slug.{IsUuid4, IsSlug, slug_text, slug_of, is_uuid4}
use Rattle.farm_text.proofs.SlugLemmas.{slug_of_uuid, uuid_of_slug, slug_of_found}

bytes_of_slug : (id : List ℕ) → IsBytes (slug_text id)
bytes_of_slug id i = let a = IsAscii-encode_of url_safe_no_pad id i in omega arith

-- a UUID is the id of its slugid
pub slug_back : (id : List ℕ) → IsUuid4 id → slug_of (slug_text id) ≡ Some id
slug_back id u = sym (slug_of_found (slug_text id) (Some id) (bytes_of_slug id) (λ _. slug_of_uuid id u, λ _. refl) refl u)

-- a slugid is the text of its id
slug_found : (t : List ℕ) → IsSlug t → (id : List ℕ) × (slug_of t ≡ Some id) × (slug_text id ≡ t)
slug_found t h =
    let w = uuid_of_slug t h in
    (w.0, ap slug_of w.2 ∙ slug_back w.0 w.1, sym w.2)

both : (a b : Bool) → a && b ≡ true → (a ≡ true) × (b ≡ true)
both true b h = (refl, h)
both false b h = cc h

tested : (id : List ℕ) → is_uuid4 id ≡ true → IsUuid4 id
tested id h =
    let p = both (length id == 16) _ h in
    let o = both (list_all (λ b. nat_lt b 256) id) _ p.1 in
    let q = both (slice_index id 6 / 16 == 4) _ o.1 in
    let each = AllPass-from_list_all (λ b. nat_lt b 256) id o.0 in
    record { len = eqb-true _ 16 p.0; octets = λ k d here. ltb-true (get_or id k d) 256 (each k d here); version = eqb-true _ 4 q.0; variant = eqb-true _ 2 q.1 }

chosen : (bytes id : List ℕ) (b : Bool) → is_uuid4 bytes ≡ b → (if b then Some bytes else None) ≡ Some id → IsUuid4 id
chosen bytes id true test is = subst IsUuid4 (let same : bytes ≡ id = cc in same) (tested bytes test)
chosen bytes id false test is = absurd cc

decoded : (r : Result (List ℕ) DecodeError) (id : List ℕ) → option_and_then (λ bytes. if is_uuid4 bytes then Some bytes else None) (result_ok r) ≡ Some id → IsUuid4 id
decoded (Ok bytes) id is = chosen bytes id (is_uuid4 bytes) refl is
decoded (Err e) id is = absurd cc

-- what a text is the slugid of, is a UUID
pub uuid_of : (t id : List ℕ) → slug_of t ≡ Some id → IsUuid4 id
unfolding slug_of
uuid_of t id is = decoded (decode_of url_safe_no_pad t) id is

one_more : (t : List ℕ) (o : Option (List ℕ)) (ids : List (List ℕ)) → slug_of t ≡ o → All IsUuid4 ids → All IsUuid4 (cons_option o ids)
one_more t None ids is all = all
one_more t (Some id) ids is all = All-cons IsUuid4 id ids (uuid_of t id is) all

pub uuids_of : (ts : List (List ℕ)) → All IsUuid4 (filter_map slug_of ts)
uuids_of [] = All-nil IsUuid4
uuids_of (t ∷ ts) = one_more t (slug_of t) (filter_map slug_of ts) refl (uuids_of ts)

-- the ids of slugids have these slugids
pub slugs_back : (ts : List (List ℕ)) → All IsSlug ts → map slug_text (filter_map slug_of ts) ≡ ts
slugs_back [] all = refl
slugs_back (t ∷ ts) all =
    let w = slug_found t (All-head IsSlug t ts all) in
    ap (λ o. map slug_text (cons_option o (filter_map slug_of ts))) w.1 ∙ ap (λ (s : List ℕ). s ∷ map slug_text (filter_map slug_of ts)) w.2
    ∙ ap (λ (ss : List (List ℕ)). t ∷ ss) (slugs_back ts (All-tail IsSlug t ts all))

-- ids are those of their slugids
pub ids_back : (ids : List (List ℕ)) → All IsUuid4 ids → filter_map slug_of (map slug_text ids) ≡ ids
ids_back [] all = refl
ids_back (id ∷ ids) all =
    ap (λ o. cons_option o (filter_map slug_of (map slug_text ids))) (slug_back id (All-head IsUuid4 id ids all))
    ∙ ap (λ (xs : List (List ℕ)). id ∷ xs) (ids_back ids (All-tail IsUuid4 id ids all))
