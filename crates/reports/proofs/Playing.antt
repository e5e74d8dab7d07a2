-- The loop of a run over a list of numbers.
use Rattle.std.proofs.Common.{◌≡◌, ℕ, ◌+◌, ◌*◌, ◌<◌, ◌≤◌, List, [], ◌∷◌, ◌++◌, length, get_or, take, drop, set, sum, sym, refl, ap, ◌∙◌, append_assoc, append-nil, arith, length-set, drop-set-lt}
use Rattle.std.proofs.lemmas.List.{drop_more, drop_all, drop-drop, take-append-drop, take_more_set, get_or_default, length-take-le}
use Rattle.std.proofs.lemmas.List.Sums.{sum_by_push}
use Rattle.walks.specs.declared.outcome.Ending.{Ending}
use Rattle.walks.specs.declared.outcome.Outcome.{Outcome}
use Rattle.walks.specs.declared.outcome.Outcome.TheVariants.{Open, Ended}
use Rattle.reports.specs.declared.report.Report.{Report}
use Rattle.reports.specs.Reports.{front}
use Rattle.reports.specs.Players.{Turned, Told, stays, prefixed, goes, reported}

module _ {P : Type 0} where
  -- counts in front
  abbrev pub behind : List ℕ → Told P → Told P
  behind cs r = record { outcome = r.outcome; counts = cs ++ r.counts; point = r.point }

  behind_more : (cs ds : List ℕ) (c : ℕ) (r : Told P) → ds ≡ cs ++ c ∷ [] → behind cs (prefixed c r) ≡ behind ds r
  behind_more cs ds c r e =
      let x : cs ++ (c ∷ r.counts) ≡ ds ++ r.counts = sym (ap (λ l. l ++ r.counts) e ∙ append_assoc cs (c ∷ []) r.counts) in
      ap (λ l. record { outcome = r.outcome; counts = l; point = r.point }) x

  module _ (turn : P → ℕ → Turned P) where
    goes_open : (b : ℕ) (at : P) (g : ℕ) (ns : List ℕ) (t : Turned P) → t ≡ turn at g → goes turn (Open b) at (g ∷ ns) ≡ prefixed t.count (goes turn t.outcome t.point ns)
    unfolding goes
    goes_open b at g ns t e = ap (λ (u : Turned P). prefixed u.count (goes turn u.outcome u.point ns)) (sym e)

    goes_none : (o : Outcome) (at : P) → goes turn o at [] ≡ stays o at
    unfolding goes
    goes_none o at = refl

    goes_ended : (e : Ending) (at : P) (ns : List ℕ) → goes turn (Ended e) at ns ≡ stays (Ended e) at
    unfolding goes
    goes_ended e at [] = refl
    goes_ended e at (n ∷ ns) = refl

    -- after j numbers
    pub record Running (all : Told P) (numbers out : List ℕ) (j : ℕ) (counts : List ℕ) (r : Report) (at : P) : Type 0 where
      pub whole : all ≡ behind (take j counts) (goes turn r.outcome at (drop j numbers))
      pub read : r.read ≡ j
      pub carried : r.carried ≡ sum (take j counts)
      pub small : r.carried ≤ 255 * j
      pub long : length counts ≡ length out
      pub kept : drop j counts ≡ drop j out

    pub begins : (at : P) (numbers out : List ℕ) (o : Outcome) → Running (goes turn o at numbers) numbers out 0 out (record { outcome = o; read = 0; carried = 0 }) at
    begins at numbers out o = record { whole = refl; read = refl; carried = refl; small = omega arith; long = refl; kept = refl }

    pub goes_on : (all : Told P) (numbers out : List ℕ) (j : ℕ) (counts : List ℕ) (r : Report) (b : ℕ) (at : P) (g : ℕ) (t : Turned P) (u : Report)
        → Running all numbers out j counts r at → r.outcome ≡ Open b → length numbers ≤ length out → j < length numbers → g ≡ get_or numbers j 0 → t ≡ turn at g → t.count ≤ 255
        → u ≡ record { outcome = t.outcome; read = r.read + 1; carried = r.carried + t.count } → Running all numbers out (j + 1) (set counts j t.count) u t.point
    goes_on all numbers out j counts r b at g t u h eo room l eg et small eu =
        let c = t.count in
        let x = take_more_set counts j c (omega (arith, h.long)) in
        let m = drop_more numbers j g (omega arith) in
        let q = get_or_default numbers j g 0 l ∙ sym eg in
        let out_so : u.outcome ≡ t.outcome = ap (λ (v : Report). v.outcome) eu in
        let carried_so : u.carried ≡ r.carried + c = ap (λ (v : Report). v.carried) eu in
        record {
          whole =
              h.whole
              ∙ ap (behind (take j counts)) (ap (λ o. goes turn o at (drop j numbers)) eo ∙ ap (goes turn (Open b) at) (m ∙ ap (λ y. y ∷ drop (j + 1) numbers) q) ∙ goes_open b at g (drop (j + 1) numbers) t et)
              ∙ behind_more (take j counts) (take (j + 1) (set counts j c)) c (goes turn t.outcome t.point (drop (j + 1) numbers)) x
              ∙ ap (λ o. behind (take (j + 1) (set counts j c)) (goes turn o t.point (drop (j + 1) numbers))) (sym out_so);
          read = ap (λ (v : Report). v.read) eu ∙ ap (λ n. n + 1) h.read;
          carried = carried_so ∙ ap (λ y. y + c) h.carried ∙ sym (ap sum x ∙ sum_by_push (λ y. y) (take j counts) c);
          small = omega (arith, h.small, carried_so);
          long = length-set counts j c ∙ h.long;
          kept = drop-set-lt (j + 1) counts j c (omega arith) ∙ sym (drop-drop 1 j counts) ∙ ap (drop 1) h.kept ∙ drop-drop 1 j out;
        }

    -- nothing is left to read
    pub record EndedSo (all : Told P) (out written : List ℕ) (r : Report) (at : P) : Type 0 where
      pub report : r ≡ reported all
      pub counts : written ≡ front all.counts out
      pub point : at ≡ all.point

    closes : (all : Told P) (numbers out : List ℕ) (j : ℕ) (counts : List ℕ) (r : Report) (at : P) → Running all numbers out j counts r at → goes turn r.outcome at (drop j numbers) ≡ stays r.outcome at → j ≤ length counts → EndedSo all out counts r at
    closes all numbers out j counts r at h d l =
        let e = h.whole ∙ ap (behind (take j counts)) d in
        let m = length-take-le j counts l in
        let y = take-append-drop j counts in
        let ec : all.counts ≡ take j counts = ap (λ (w : Told P). w.counts) e ∙ append-nil (take j counts) in
        let eo : all.outcome ≡ r.outcome = ap (λ (w : Told P). w.outcome) e in
        let re = h.read in
        let ca = h.carried in
        let ke = h.kept in
        let eta : r ≡ record { outcome = r.outcome; read = r.read; carried = r.carried } = refl in
        record { report = cc; counts = cc; point = sym (ap (λ (w : Told P). w.point) e) }

    pub ends_early : (all : Told P) (numbers out : List ℕ) (j : ℕ) (counts : List ℕ) (r : Report) (e : Ending) (at : P) → Running all numbers out j counts r at → r.outcome ≡ Ended e → j ≤ length counts → EndedSo all out counts r at
    ends_early all numbers out j counts r e at h eo l =
        closes all numbers out j counts r at h (ap (λ o. goes turn o at (drop j numbers)) eo ∙ goes_ended e at (drop j numbers) ∙ ap (λ o. stays o at) (sym eo)) l

    pub ends_late : (all : Told P) (numbers out : List ℕ) (j : ℕ) (counts : List ℕ) (r : Report) (at : P) → Running all numbers out j counts r at → j ≤ length counts → length numbers ≤ j → EndedSo all out counts r at
    ends_late all numbers out j counts r at h l le =
        closes all numbers out j counts r at h (ap (goes turn r.outcome at) (drop_all j numbers le) ∙ goes_none r.outcome at) l
