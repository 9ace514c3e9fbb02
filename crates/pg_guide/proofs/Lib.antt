mod WhyLemmas
