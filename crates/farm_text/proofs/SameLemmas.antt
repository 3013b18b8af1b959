-- Documents of two kinds are not the same.
use Rattle.std.proofs.Common.{◌≡◌, ◌↔◌, ℕ, ℤ, Bool, false, Vec, BTreeMap, String, Global, IsTrue, refl, sym, ap, ◌∙◌, rules, arith}
use Rattle.std.proofs.lemmas.Bool.{false≢true}
use Rattle.farm_text.specs.Document.{Document, null, boolean, whole, text, array, object}
use Rattle.farm_text.specs.Doc.{document}
use Rattle.farm_text.specs.declared.text.Text.{Text}
use Rattle.farm_text.specs.declared.doc.Doc as Doc
use Rattle.farm_text.specs.declared.doc.Doc.{Doc, roll-Doc, roll-out-Doc, the_lemmas}
use Rattle.farm_text.specs.declared.doc.Doc.TheVariants.{rolls-List, outs-List', rolls-Map, outs-Map'}

-- a number for each kind of document
abbrev kind : Document → ℕ
kind null = 0
kind (boolean b) = 1
kind (whole z) = 2
kind (text t) = 3
kind (array ds) = 4
kind (object ms) = 5

abbrev pub kind_of : Doc → ℕ
kind_of Doc.Null = 0
kind_of (Doc.Bool b) = 1
kind_of (Doc.Int z) = 2
kind_of (Doc.Text t) = 3
kind_of (Doc.List' s r) = 4
kind_of (Doc.Map' s r) = 5

kinds : (d : Doc) → kind (document d) ≡ kind_of d
kinds Doc.Null = search (rules, the_lemmas)
kinds (Doc.Bool b) = search (rules, the_lemmas)
kinds (Doc.Int z) = search (rules, the_lemmas)
kinds (Doc.Text t) = search (rules, the_lemmas)
kinds (Doc.List' s r) = search (rules, the_lemmas)
kinds (Doc.Map' s r) = search (rules, the_lemmas)

pub not_same : (a b : Doc) → (kind_of a ≡ kind_of b → ⊥) → IsTrue false ↔ (document a ≡ document b)
not_same a b other = (λ t. absurd (false≢true t), λ e. absurd (other (sym (kinds a) ∙ ap kind e ∙ kinds b)))

pub no_null : (d : Doc) → (d ≡ Doc.Null → ⊥) → kind_of d ≡ 0 → ⊥
no_null Doc.Null other e = other refl
no_null _ other e = omega (arith, e)

pub no_bool : (d : Doc) → ((b : Bool) → d ≡ Doc.Bool b → ⊥) → kind_of d ≡ 1 → ⊥
no_bool (Doc.Bool b) other e = other b refl
no_bool _ other e = omega (arith, e)

pub no_int : (d : Doc) → ((z : ℤ) → d ≡ Doc.Int z → ⊥) → kind_of d ≡ 2 → ⊥
no_int (Doc.Int z) other e = other z refl
no_int _ other e = omega (arith, e)

pub no_text : (d : Doc) → ((t : Text) → d ≡ Doc.Text t → ⊥) → kind_of d ≡ 3 → ⊥
no_text (Doc.Text t) other e = other t refl
no_text _ other e = omega (arith, e)

pub no_list : (d : Doc) → ((v : Vec Doc Global) → d ≡ Doc.List v → ⊥) → kind_of d ≡ 4 → ⊥
no_list (Doc.List' s r) other e = other _ (sym (roll-out-Doc (Doc.List' s r)) ∙ ap roll-Doc (outs-List' s r) ∙ rolls-List _)
no_list _ other e = omega (arith, e)

pub no_map : (d : Doc) → ((m : BTreeMap (String Global) Doc) → d ≡ Doc.Map m → ⊥) → kind_of d ≡ 5 → ⊥
no_map (Doc.Map' s r) other e = other _ (sym (roll-out-Doc (Doc.Map' s r)) ∙ ap roll-Doc (outs-Map' s r) ∙ rolls-Map _)
no_map _ other e = omega (arith, e)
