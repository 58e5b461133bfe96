-- What an answer at the path of a token says of the sessions.
use Rattle.std.specs.Prelude.{◌≡◌, ◌≢◌, ◌==◌, ◌<◌, ◌^◌, ◌∷◌, [], ℕ, List, codes, drop, None, Some, Result, Ok, Err, OnOk, Contains, IsPermutation}
use Rattle.std.proofs.Common.{ap, refl, rules, subst, sym, ◌∙◌}
use Rattle.std.proofs.lemmas.Fmt.{decimal_injective}
use Rattle.iddqd_store.proofs.CallerLemmas.{passes-listed}
use Rattle.iddqd_store.proofs.RankLemmas.Index.{Contains-here}
use Rattle.iddqd_tri.specs.Bag.{IsOnly, Ranks}
use Rattle.iddqd_tri.specs.Map.{Map, bag}
use Rattle.http.specs.Uri.{uri_path}
use Rattle.http.specs.declared.request.Parts.{Parts}
use Rattle.example_http.specs.Answer.{IsAnswer, path_of}
use Rattle.example_http.specs.declared.sessions.Session.{Session}

-- a path is that of one token
one_token : (m n : ℕ) → m < 2 ^ 64 → n < 2 ^ 64 → (path : List ℕ) → path ≡ path_of m → path ≡ path_of n → m ≡ n
one_token m n small1 small2 path is1 is2 = decimal_injective m n small1 small2 (ap (drop 10) (sym is1 ∙ is2))

-- the session that a token names has the token
own_token : (token : ℕ) (all : List Session) (s : Session) → IsOnly (λ (t : Session). token == t.token) all (Some s) → token ≡ s.token
own_token token all s only =
    let passes = (passes-listed (λ (t : Session). token == t.token) all s (subst (λ l. Contains l s) only (Contains-here s []))).1 in
    search (rules, passes)

abbrev Named : ℕ → List Session → Type 0
Named token all = (s : Session) × IsOnly (λ (t : Session). token == t.token) all (Some s)

abbrev Unnamed : ℕ → List Session → Type 0
Unnamed token all = IsOnly (λ (t : Session). token == t.token) all None

-- what holds anyway holds of `Ok`
pub on_ok : {A E P : Type 0} (r : Result A E) → P → OnOk r P
on_ok (Ok x) p = p
on_ok (Err e) p = tt

-- the session with the token is shown, or there is none
pub shows : {S E : Type 0} (ranks : Ranks Session) (old : Map Session S) (head : Parts) (status token : ℕ) (r : Result Unit E) → token < 2 ^ 64
    → uri_path head.uri ≡ path_of token → OnOk r (status ≡ 200 → Named token (bag old)) → OnOk r (status ≡ 404 → Unnamed token (bag old))
    → OnOk r ((status ≢ 201) × (status ≢ 204)) → OnOk r (IsAnswer ranks old old head status)
shows ranks old head status token (Ok done) small path found missing plain = record {
  opened = λ e. absurd (plain.0 e);
  closed = λ e. absurd (plain.1 e);
  found = λ e other fits is. subst (λ (n : ℕ). Named n (bag old)) (one_token token other small fits (uri_path head.uri) path is) (found e);
  missing = λ e other fits is. subst (λ (n : ℕ). Unnamed n (bag old)) (one_token token other small fits (uri_path head.uri) path is) (missing e);
  kept = λ _ _. refl;
}
shows ranks old head status token (Err error) small path found missing plain = tt

-- the session with the token is closed, or there is none
pub closes : {S : Type 0} (ranks : Ranks Session) (old new : Map Session S) (head : Parts) (status token : ℕ) → head.method ≡ codes "DELETE" → token < 2 ^ 64 → uri_path head.uri ≡ path_of token →
    (status ≡ 204 → (s : Session) × IsOnly (λ (t : Session). token == t.token) (bag old) (Some s) × IsPermutation (bag old) (s ∷ bag new))
    → (status ≡ 404 → Unnamed token (bag old)) → (status ≢ 204 → new ≡ old) → (status ≢ 200) × (status ≢ 201) → IsAnswer ranks old new head status
closes ranks old new head status token method small path closed missing kept plain = record {
  opened = λ e. absurd (plain.1 e);
  closed = λ e.
      let it = closed e in
      let own = own_token token (bag old) it.0 it.1 in
      (method, (it.0, path ∙ ap path_of own, subst (λ (n : ℕ). IsOnly (λ (t : Session). n == t.token) (bag old) (Some it.0)) own it.1, it.2));
  found = λ e. absurd (plain.0 e);
  missing = λ e other fits is. subst (λ (n : ℕ). Unnamed n (bag old)) (one_token token other small fits (uri_path head.uri) path is) (missing e);
  kept = λ _ other. kept other;
}
