-- What the status of an answer says of the sessions.
use Rattle.std.specs.Prelude.{◌≡◌, ◌≢◌, ◌==◌, ◌<◌, ◌^◌, ◌∷◌, ◌++◌, ℕ, List, codes, decimal, None, Some, IsPermutation}
use Rattle.iddqd_tri.specs.Bag.{IsOnly, Ranks, with_item}
use Rattle.iddqd_tri.specs.Map.{Map, bag}
use Rattle.http.specs.declared.request.Parts.{Parts}
use Rattle.http.specs.Uri.{uri_path}
use Rattle.example_http.specs.declared.sessions.Session.{Session}

-- the path of the session with this token
abbrev pub path_of : ℕ → List ℕ
path_of token = codes "/sessions/" ++ decimal token

-- The status answers a request with this head, before which the sessions were those of `old`, and after which they are those of `new`.
pub record IsAnswer {S : Type 0} (ranks : Ranks Session) (old new : Map Session S) (head : Parts) (status : ℕ) : Type 0 where
  -- one session was opened, and took the place of those that conflict with it; no clause says that it is the one of the body
  pub opened : status ≡ 201 → (head.method ≡ codes "POST") × ((s : Session) × IsPermutation (bag new) (with_item ranks (bag old) s))
  -- the session whose path this is was closed, and no other
  pub closed : status ≡ 204 → (head.method ≡ codes "DELETE") × ((s : Session) × (uri_path head.uri ≡ path_of s.token)
      × IsOnly (λ t. s.token == t.token) (bag old) (Some s) × IsPermutation (bag old) (s ∷ bag new))
  -- there is a session whose path this is, if it is that of a token; no clause says that it is the one that is shown
  pub found : status ≡ 200 → (token : ℕ) → token < 2 ^ 64 → uri_path head.uri ≡ path_of token → (s : Session) × IsOnly (λ t. token == t.token) (bag old) (Some s)
  pub missing : status ≡ 404 → (token : ℕ) → token < 2 ^ 64 → uri_path head.uri ≡ path_of token → IsOnly (λ t. token == t.token) (bag old) None
  -- with any other status nothing was opened or closed
  pub kept : status ≢ 201 → status ≢ 204 → new ≡ old
