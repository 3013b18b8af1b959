-- The ext of a header: what it allows of the client's scopes (Taskcluster reference, "Authorized Scopes").
use Rattle.std.specs.Prelude.{◌≡◌, ℕ, List, [], codes, map, All, Option, Some, None}
use Rattle.base64.specs.GeneralPurpose.{encode_of, IsBytes}
use Rattle.base64.specs.Engines.{standard}
use Rattle.scope_sets.specs.Scopes.{IsPrintable, HasHandedInForm}
use Rattle.farm_text.specs.Document.{Document, text, array, object, items_of, get, data_of}
use Rattle.farm_text.specs.Reading.{IsJson, unwhole}

-- a scope that may be handed in
pub record IsScope (t : List ℕ) : Type 0 where
  pub printable : All IsPrintable t
  pub form : HasHandedInForm 4096 t

-- the document is a list of these scopes
pub record AreScopes (d : Document) (scopes : List (List ℕ)) : Type 0 where
  pub is : d ≡ array (items_of (map text scopes))
  pub formed : All IsScope scopes

-- what stands at the key `authorizedScopes`: nothing, or a list of these scopes
abbrev pub AllowsOnly : Option Document → Option (List (List ℕ)) → Type 0
AllowsOnly None None = Unit {0}
AllowsOnly None (Some scopes) = ⊥
AllowsOnly (Some d) None = ⊥
AllowsOnly (Some d) (Some scopes) = AreScopes d scopes

-- the bytes are JSON of whole numbers, and this document
pub record IsDocument (bytes : List ℕ) (d : Document) : Type 0 where
  pub json : IsJson bytes (data_of d)
  pub whole : unwhole (data_of d) ≡ []

-- the document is a JSON object
abbrev pub IsObject : Document → Type 0
IsObject (object found) = Unit {0}
IsObject d = ⊥

-- the document is an object without a certificate, and allows this
pub record Allows (d : Document) (allowed : Option (List (List ℕ))) : Type 0 where
  pub is_object : IsObject d
  pub free : get (codes "certificate") d ≡ None
  pub scopes : AllowsOnly (get (codes "authorizedScopes") d) allowed

-- the ext is base64 of a document that allows this: all that the client has, or these scopes
pub record IsExt (ext : List ℕ) (allowed : Option (List (List ℕ))) : Type 0 where
  pub content : List ℕ
  pub bytes : IsBytes content
  pub encoded : ext ≡ encode_of standard content
  pub d : Document
  pub document : IsDocument content d
  pub allows : Allows d allowed
