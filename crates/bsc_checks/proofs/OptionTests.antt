-- Options without a shape, and options that are not understood, as tests of what is read.
-- It serves the clauses of `judge` and `one_outcome`.
use Rattle.std.proofs.Common.{◌≡◌, ℕ, inl, inr, Bool, true, false, not, ◌||◌, eqb, List, [], ◌∷◌, ◌++◌, Option, Some, None, is_some, refl, sym, ap, subst, ◌∙◌}
use Rattle.std.specs.List.{AllByRecursion}
use Rattle.std.proofs.lemmas.Bool.{eqb-true, eqb-false}
use Rattle.bsc_octets.specs.Envelopes.{flags_in}
use Rattle.bsc_options.specs.declared.item.OptionItem.{OptionItem}
use Rattle.bsc_options.specs.Spelling.{Fits, HasShape, has_data_of_its_type}
use Rattle.bsc_options.specs.Reading.{AreItems, BeginsWith, IsCut}
use Rattle.bsc_options.proofs.Exact.{cut_or_whole, options_or_fault}
use Rattle.bsc_frame.specs.Layout.{announces_dest_options, announces_data_options, options_at, IsList}
use Rattle.bsc_frame.specs.Checks.{HasItemAtFault, HasBadOption, OfDestOptions, OfDataOptions}
use Rattle.bsc_frame.proofs.OptionLists.{list_one}
use Rattle.bsc_checks.specs.Table.{IsFirstNotUnderstood, HasOptionNotUnderstood}
use Rattle.bsc_checks.specs.Walk.{marker_refused}
use Rattle.bsc_checks.proofs.Behind.{refused_at, refused_is}
use Rattle.bsc_checks.specs.Options.{Found, items_of}
use Rattle.bsc_checks.specs.Failing.{is_bad, has_bad}
use Rattle.bsc_checks.proofs.Reflecting.{Reflects, either, alike}
use Rattle.bsc_checks.proofs.TwoLists.{DestSays, BothSay, data_at, data_of, no_data}
use Rattle.bsc_frame.proofs.Common.{not_cut}

-- ---- an item without a shape

abbrev ShapeSays : OptionItem → Bool → Type 0
ShapeSays item true = HasShape item → ⊥
ShapeSays item false = HasShape item

shape_by : (item : OptionItem) (a b : Bool) → Fits item → eqb item.kind 0 ≡ a → has_data_of_its_type item ≡ b → ShapeSays item (a || not b)
shape_by item true true fits kind content = λ shape. shape.kind (eqb-true item.kind 0 kind)
shape_by item true false fits kind content = λ shape. shape.kind (eqb-true item.kind 0 kind)
shape_by item false true fits kind content = record { fits = fits; kind = eqb-false item.kind 0 kind; content = content }
shape_by item false false fits kind content = λ shape. let both : true ≡ false = sym shape.content ∙ content in absurd cc

shape_says : (item : OptionItem) → Fits item → ShapeSays item (is_bad item)
shape_says item fits = shape_by item (eqb item.kind 0) (has_data_of_its_type item) fits refl refl

-- ---- a list with such an item

record BadAt (items : List OptionItem) : Type 0 where
  before : List OptionItem
  item : OptionItem
  after : List OptionItem
  parts : items ≡ before ++ item ∷ after
  earlier : AllByRecursion HasShape before
  fault : HasShape item → ⊥

bad_by : (x : OptionItem) (xs : List OptionItem) (b : Bool) → ShapeSays x b → (b || has_bad xs) ≡ true → (has_bad xs ≡ true → BadAt xs) → BadAt (x ∷ xs)
bad_by x xs true says e later = record { before = []; item = x; after = xs; parts = refl; earlier = tt; fault = says }
bad_by x xs false says e later =
    let at = later e in
    record { before = x ∷ at.before; item = at.item; after = at.after; parts = ap (λ (l : List OptionItem). x ∷ l) at.parts; earlier = (says, at.earlier); fault = at.fault }

bad_at : (items : List OptionItem) → AllByRecursion Fits items → has_bad items ≡ true → BadAt items
bad_at [] fits e = absurd cc
bad_at (x ∷ xs) fits e = bad_by x xs (is_bad x) (shape_says x fits.0) e (λ later. bad_at xs fits.1 later)

good_by : (x : OptionItem) (xs : List OptionItem) (b : Bool) → ShapeSays x b → (b || has_bad xs) ≡ false → (has_bad xs ≡ false → AllByRecursion HasShape xs) → HasShape x × AllByRecursion HasShape xs
good_by x xs true says e later = absurd cc
good_by x xs false says e later = (says, later e)

pub good_all : (items : List OptionItem) → AllByRecursion Fits items → has_bad items ≡ false → AllByRecursion HasShape items
good_all [] fits e = tt
good_all (x ∷ xs) fits e = good_by x xs (is_bad x) (shape_says x fits.0) e (λ later. good_all xs fits.1 later)

-- ---- a list of a message

fault_in : (m : List ℕ) (at : ℕ) (items : List OptionItem) (end : ℕ) → AreItems items → BeginsWith m at items end → BadAt items → HasItemAtFault m at
fault_in m at items end are begins bad = (
  bad.item,
  record {
    before = bad.before;
    after = bad.after;
    end = end;
    are = subst AreItems bad.parts are;
    whole = subst (λ (l : List OptionItem). BeginsWith m at l end) bad.parts begins;
    earlier = bad.earlier;
    fault = bad.fault;
  },
)

fault_back : (m : List ℕ) (at : ℕ) (items : List OptionItem) (end : ℕ) (b : Bool) → has_bad items ≡ b → AreItems items → BeginsWith m at items end → HasItemAtFault m at → b ≡ true
fault_back m at items end true is are begins fault = refl
fault_back m at items end false is are begins fault = absurd (options_or_fault m at items end fault.0 (record { some = are.some; shapes = good_all items are.fit is }) begins fault.1)

list_bad : (b : Bool) (m : List ℕ) (at : ℕ) (items : List OptionItem) (end : ℕ) → IsList b m at items end → Reflects ((b ≡ true) × HasItemAtFault m at) (has_bad items)
list_bad true m at items end list =
    record { holds = (λ e. (refl, fault_in m at items end list.0 list.1 (bad_at items list.0.fit e))); back = (λ h. fault_back m at items end (has_bad items) refl list.0 list.1 h.1) }
list_bad false m at items end list =
    record { holds = (λ e. let none : has_bad [] ≡ true = ap has_bad (sym list.0) ∙ e in absurd cc); back = (λ h. let set : false ≡ true = h.0 in absurd cc) }

-- a list with an item at fault is whole
fault_or_cut : (m : List ℕ) (at : ℕ) → HasItemAtFault m at → IsCut m at → ⊥
fault_or_cut m at fault cut = cut_or_whole m at (fault.1.before ++ fault.0 ∷ fault.1.after) fault.1.end fault.1.are fault.1.whole cut

pub bad : (m : List ℕ) (d e : Option Found) → BothSay m d e → Reflects (HasBadOption m) (has_bad (items_of d) || has_bad (items_of e))
bad m None None says =
    record {
      holds = (λ e. absurd cc);
      back = (λ h. absurd (elim h [ inl first ↦ fault_or_cut m (options_at m) first.1 says.1 | inr next ↦ no_data m (HasItemAtFault m) says next ]));
    }
bad m None (Some g) says = absurd says
bad m (Some f) None says =
    either (OfDestOptions m (HasItemAtFault m)) (OfDataOptions m (HasItemAtFault m)) (has_bad f.items) false
    (list_bad (announces_dest_options (flags_in m)) m (options_at m) f.items says.0 says.1)
    (record { holds = (λ e. absurd cc); back = (λ h. absurd (fault_or_cut m says.0 (data_at m says.0 f.items (HasItemAtFault m) says.1 h).1 says.3)) })
bad m (Some f) (Some g) says =
    let here = (announces_data_options (flags_in m) ≡ true) × HasItemAtFault m says.0 in
    either (OfDestOptions m (HasItemAtFault m)) (OfDataOptions m (HasItemAtFault m)) (has_bad f.items) (has_bad g.items)
    (list_bad (announces_dest_options (flags_in m)) m (options_at m) f.items says.0 says.2.first)
    (alike here (OfDataOptions m (HasItemAtFault m)) (has_bad g.items) (λ h. data_of m says.0 f.items (HasItemAtFault m) says.2.first h)
    (λ h. data_at m says.0 f.items (HasItemAtFault m) says.2.first h)
    (list_bad (announces_data_options (flags_in m)) m says.0 g.items says.1 says.2.second))

-- ---- an option that is not understood

pub first_marker : (m : List ℕ) (d : Option Found) (marker : ℕ) → DestSays m d → IsFirstNotUnderstood m marker → marker_refused (items_of d) ≡ Some marker
first_marker m None marker says first = absurd (not_cut (announces_dest_options (flags_in m)) m (options_at m) (first.before ++ first.item ∷ first.after) first.end first.list says.0 says.1)
first_marker m (Some f) marker says first =
    let same : first.before ++ first.item ∷ first.after ≡ f.items =
    (list_one (announces_dest_options (flags_in m)) m (options_at m) (first.before ++ first.item ∷ first.after) f.items first.end says.0 first.list says.1).0 in
    ap marker_refused (sym same) ∙ refused_is first.before first.item first.after first.earlier first.fault ∙ ap (λ (n : ℕ). Some n) (sym first.marker_is)

marker_found : (m : List ℕ) (f : Found) (marker : ℕ) → DestSays m (Some f) → marker_refused f.items ≡ Some marker → IsFirstNotUnderstood m marker
marker_found m f marker says e =
    let at = refused_at f.items marker e in
    record {
      before = at.before;
      item = at.item;
      after = at.after;
      end = says.0;
      list = subst (λ (l : List OptionItem). IsList (announces_dest_options (flags_in m)) m (options_at m) l says.0) at.parts says.1;
      earlier = at.earlier;
      fault = at.fault;
      marker_is = at.marker_is;
    }

understood_by : (m : List ℕ) (f : Found) (r : Option ℕ) → DestSays m (Some f) → marker_refused f.items ≡ r → Reflects (HasOptionNotUnderstood m) (is_some r)
understood_by m f (Some marker) says e = record { holds = (λ set. (marker, marker_found m f marker says e)); back = (λ h. refl) }
understood_by m f None says e =
    record { holds = (λ set. absurd cc); back = (λ h. let both : ◌≡◌ {A = Option ℕ} None (Some h.0) = sym e ∙ first_marker m (Some f) h.0 says h.1 in absurd cc) }

pub not_understood : (m : List ℕ) (d : Option Found) → DestSays m d → Reflects (HasOptionNotUnderstood m) (is_some (marker_refused (items_of d)))
not_understood m None says =
    record { holds = (λ set. absurd cc); back = (λ h. let none : ◌≡◌ {A = Option ℕ} None (Some h.0) = first_marker m None h.0 says h.1 in absurd cc) }
not_understood m (Some f) says = understood_by m f (marker_refused f.items) says refl
